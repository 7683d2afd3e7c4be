-- What the layout of a list goes by, as its lines come (docs/REPLAY.md, "Shown to people"). Definitions only.
-- Assumes nothing.
use Rattle.std.specs.Prelude.{ℕ, true, false, None, Some, [], ◌∷◌}
use Rattle.folding.specs.Apart.{one_more}
use Rattle.showing.specs.declared.Shown.{Shown}
use Rattle.showing.specs.declared.tables.Sequence.{Sequence}

-- before the first line nothing is counted, and no sequence runs
abbrev pub first_shown : Shown
first_shown = record {
  calls = 0;
  refused = 0;
  bad_lines = 0;
  sequence = None;
  step = None;
  begins = false;
  moved = false;
  reading = None;
  steps = None ∷ None ∷ None ∷ [];
}

-- one more call, of which nothing is known yet
abbrev pub with_call : Shown → Shown
with_call s = record s { calls = one_more s.calls; begins = false; reading = None }

-- the call begins this sequence: of a session, whose sequences have no steps before
abbrev pub with_sequence : Sequence → Shown → Shown
with_sequence q s = record s { begins = true; sequence = Some q; steps = None ∷ None ∷ None ∷ [] }

-- the call is a feed or check with this reading
abbrev pub with_reading : ℕ → Shown → Shown
with_reading now s = record s { reading = Some now }

-- one more line that can't be read
abbrev pub with_bad_line : Shown → Shown
with_bad_line s = record s { bad_lines = one_more s.bad_lines }
