-- `DspStatus80::none` meets its contract, field by field.
-- Assumes nothing.
use Rattle.std.proofs.Common.{◌≡◌, false}
use Rattle.std.specs.Prelude.{ℤ}
use Rattle.protocol.specs.declared.DspStatus80.{DspStatus80}
use Rattle.protocol.specs.Carried.{no_dsp_status80}
use Rattle.protocol.proofs.DspStatus80.none.Goals as goal

empty : (r : DspStatus80) → r.state ≡ 0 → r.input_voltage_usb ≡ ℤ.pos 0 → r.system_voltage ≡ ℤ.pos 0 → r.battery_current ≡ ℤ.pos 0
    → r.temperature_raw ≡ ℤ.pos 0 → r.battery_voltage ≡ ℤ.pos 0 → r.battery_voltage_2 ≡ ℤ.pos 0 → r.power_level ≡ ℤ.pos 0 → r.external_power ≡ false
    → record {
      state = r.state;
      input_voltage_usb = r.input_voltage_usb;
      system_voltage = r.system_voltage;
      battery_current = r.battery_current;
      temperature_raw = r.temperature_raw;
      battery_voltage = r.battery_voltage;
      battery_voltage_2 = r.battery_voltage_2;
      power_level = r.power_level;
      external_power = r.external_power;
    } ≡ no_dsp_status80
empty r a b c d e f g h i = rw (a, b, c, d, e, f, g, h, i)

pub returns : goal.returns
returns c =
    let h = c.default.ensures in
    empty c.default.result h.0 h.1.0 h.1.1.0 h.1.1.1.0 h.1.1.1.1.0 h.1.1.1.1.1.0 h.1.1.1.1.1.1.0 h.1.1.1.1.1.1.1.0 h.1.1.1.1.1.1.1.1
