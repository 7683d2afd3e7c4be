-- The parameters of a Mevo: the ball type as a signed number is the same number.
-- Assumes nothing.
use Rattle.std.proofs.Common.{rules, ◌≡◌, refl, w32}
use Rattle.std.specs.Prelude.{ℤ}
use mir.Val.{to_z}
use Rattle.settings.proofs.MevoSettings.params.Goals as goal

pub returns : goal.returns
returns c =
    let signed : to_z w32 c.args.self.ball_type ≡ ℤ.pos c.args.self.ball_type = search rules in
    rw signed refl
