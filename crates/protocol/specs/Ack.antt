-- The app's acknowledgement of a frame: its own address, and the type id with the top bit cleared. Definitions only.
-- Assumes nothing.
use Rattle.std.specs.Prelude.{ℕ, ◌%◌}
use Rattle.protocol.specs.declared.BusAddr.{BusAddr}
use Rattle.protocol.specs.declared.ConfigAck.{ConfigAck}
use Rattle.protocol.specs.Addr.{byte_of}

-- a byte's top bit is worth 128
abbrev pub ack_of : ℕ → ConfigAck
ack_of id = record { bus_addr = byte_of BusAddr.App; acked_cmd = id % 128 }
