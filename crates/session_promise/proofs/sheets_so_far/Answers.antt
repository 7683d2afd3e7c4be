-- The theorem holds: proofs/Sheets.antt.
-- Assumes nothing.
use Rattle.session_promise.proofs.Sheets.{sheets}
use Rattle.session_promise.proofs.sheets_so_far.Goals as goal

pub returns : goal.returns
returns c = sheets
