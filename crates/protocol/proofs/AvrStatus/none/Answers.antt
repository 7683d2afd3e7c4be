-- `AvrStatus::none` meets its contract, field by field.
-- Assumes nothing.
use Rattle.std.proofs.Common.{◌≡◌}
use Rattle.std.specs.Prelude.{ℤ}
use Rattle.std.specs.Float.{binary64}
use Rattle.std.specs.Float.Ieee.{of_bits}
use Rattle.protocol.specs.declared.AvrStatus.{AvrStatus}
use Rattle.protocol.specs.Carried.{no_avr_status}
use Rattle.protocol.proofs.AvrStatus.none.Goals as goal

empty : (r : AvrStatus) → r.version ≡ 0 → r.state ≡ 0 → r.hw_id_hi ≡ 0 → r.hw_id_lo ≡ 0 → r.full_app_id ≡ ℤ.pos 0
    → r.temperature ≡ of_bits binary64 0 → r.tilt ≡ of_bits binary64 0 → r.roll ≡ of_bits binary64 0
    → record {
      version = r.version;
      state = r.state;
      hw_id_hi = r.hw_id_hi;
      hw_id_lo = r.hw_id_lo;
      full_app_id = r.full_app_id;
      temperature = r.temperature;
      tilt = r.tilt;
      roll = r.roll;
    } ≡ no_avr_status
empty r a b c d e f g h = rw (a, b, c, d, e, f, g, h)

pub returns : goal.returns
returns c =
    let h = c.default.ensures in
    empty c.default.result h.0 h.1.0 h.1.1.0 h.1.1.1.0 h.1.1.1.1.0 h.1.1.1.1.1.0 h.1.1.1.1.1.1.0 h.1.1.1.1.1.1.1
