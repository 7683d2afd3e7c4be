-- `before_zero` meets its contract: the first zero byte is inside the text, or at its end.
-- Assumes nothing.
use Rattle.std.proofs.Common.{sym, arith}
use lib.Seq.{length-take-le}
use Rattle.net_config.proofs.Texts.{inside}
use Rattle.net_config.proofs.before_zero.Goals as goal

pub slice_bounds-from_slice-end : goal.slice_bounds-from_slice-end
slice_bounds-from_slice-end c =
    let s = c.args.text.now in
    sym (length-take-le _ s (omega (arith, inside s, c.first_zero-at.ensures)))
