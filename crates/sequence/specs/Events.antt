-- Envelopes, what a table asks of one, and the events (the scope's places) of a run. Definitions only.
-- Assumes nothing.
use Rattle.std.specs.Prelude.{ℕ, ◌+◌, Bool, false, ◌&&◌, ◌||◌, List, [], leb, eqb, ℤ}
use Rattle.protocol.specs.declared.BusAddr.{BusAddr}
use Rattle.protocol.specs.declared.Message.{Message}
use Rattle.protocol.specs.Addr.{byte_of}
use Rattle.protocol.specs.Carried.{carried}
use Rattle.protocol.specs.Kinds.{tag}

-- src, type_id, a kind and its numbers, a text and a payload. The 34 numbers of a ConfigResp stand beside the kind.
pub record Envelope : Type 0 where
  pub src : BusAddr
  pub type_id : ℕ
  pub message : Message
  pub params : List ℤ
  pub text : List ℕ
  pub payload : List ℕ

-- an envelope with nothing but a source, a message and a text
abbrev pub plain : BusAddr → Message → List ℕ → Envelope
plain src m text = record { src = src; type_id = 0; message = m; params = []; text = text; payload = [] }

-- of this kind, from any device
abbrev pub of_kind : ℕ → Envelope → Bool
of_kind k e = eqb (tag e.message) k

-- from the device with this byte, and of this kind
abbrev pub kind : ℕ → ℕ → Envelope → Bool
kind b k e = eqb (byte_of e.src) b && of_kind k e

-- and with this acked_cmd
abbrev pub acking : ℕ → ℕ → ℕ → Envelope → Bool
acking b k c e = kind b k e && eqb (carried e.message).ack.acked_cmd c

abbrev pub either : (Envelope → Bool) → (Envelope → Bool) → Envelope → Bool
either p q e = p e || q e

-- An accepted feed or check, with its clock reading. A is what a feed is handed: an envelope, and wall seconds where the sequence takes
-- them. Without a clock every reading is 0.
pub data Event (A : Type 0) : Type 0 where
  fed : A → ℕ → Event A
  checked : ℕ → Event A

abbrev pub reading : {A : Type 0} → Event A → ℕ
reading (fed a t) = t
reading (checked t) = t

-- how long an entry waits before a check may tick it
pub data Wait : Type 0 where
  forever : Wait
  nanos : ℕ → Wait

-- is the wait over at u, the entry before being ticked at t? "After" an entry: reading minus the reading at its tick.
abbrev pub over : Wait → ℕ → ℕ → Bool
over forever t u = false
over (nanos n) t u = leb (t + n) u
