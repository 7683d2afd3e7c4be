-- What a host's calls for a sheet answer, and the buffer at exit: as the call itself, of the start-up that the numbers stand for. Numbers that
-- no case has are refused with 21; where a sheet is refused, with 5 or with 21, the buffer is as it was. Definitions only.
-- Assumes nothing.
use Rattle.std.specs.Prelude.{ℕ, List, Result, Ok, Err}
use Rattle.sheet.specs.declared.SheetRefusal.{SheetRefusal}
use Rattle.sheet.specs.Sheet.{number, answered, written}
use Rattle.dsp.specs.Answers as dsp
use Rattle.avr.specs.Answers as avr
use Rattle.pi.specs.Answers as pi
use Rattle.abi_dsp.specs.declared.CDsp.{CDsp}
use Rattle.abi_avr.specs.declared.CAvr.{CAvr}
use Rattle.abi_pi.specs.declared.CPi.{CPi}
use Rattle.abi_dsp.specs.State.{dsp_in}
use Rattle.abi_avr.specs.State.{avr_in}
use Rattle.abi_pi.specs.State.{pi_in}
use Rattle.host.specs.declared.written.CWritten.{CWritten}
use Rattle.host.specs.Sends.{unknown, known}

-- how many bytes are written, or the refusal's number
abbrev pub told : Result ℕ SheetRefusal → CWritten
told (Ok n) = record { refusal = 0; len = n }
told (Err r) = record { refusal = number r; len = 0 }

-- a number that no case has
abbrev pub declined : CWritten
declined = record { refusal = unknown; len = 0 }

-- ---- DSP

abbrev pub dsp_sheet : CDsp → List ℕ → ℕ → CWritten
dsp_sheet c buf at = known (dsp_in c) (λ s. told (answered (dsp.sheet_of s) at buf)) declined

abbrev pub dsp_sheet_buffer : CDsp → List ℕ → ℕ → List ℕ
dsp_sheet_buffer c buf at = known (dsp_in c) (λ s. written (dsp.sheet_of s) at buf) buf

-- ---- AVR

abbrev pub avr_sheet : CAvr → List ℕ → ℕ → CWritten
avr_sheet c buf at = known (avr_in c) (λ s. told (answered (avr.sheet_of s) at buf)) declined

abbrev pub avr_sheet_buffer : CAvr → List ℕ → ℕ → List ℕ
avr_sheet_buffer c buf at = known (avr_in c) (λ s. written (avr.sheet_of s) at buf) buf

-- ---- Pi

abbrev pub pi_sheet : CPi → List ℕ → ℕ → CWritten
pi_sheet c buf at = known (pi_in c) (λ s. told (answered (pi.sheet_of s) at buf)) declined

abbrev pub pi_sheet_buffer : CPi → List ℕ → ℕ → List ℕ
pi_sheet_buffer c buf at = known (pi_in c) (λ s. written (pi.sheet_of s) at buf) buf
