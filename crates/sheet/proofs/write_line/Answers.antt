-- `write_line` meets its contract: each piece stands behind those before it.
-- Assumes nothing.
use Rattle.std.proofs.Common.{[], ◌∷◌, decimal}
use Rattle.sheet.specs.Sheet.{start_up_letter, how_letter}
use Rattle.sheet.proofs.Pieces.{Begun, behind}
use Rattle.sheet.proofs.write_line.Goals as goal

pub returns-clause-text : goal.returns-clause-text
returns-clause-text c =
    let e1 = c.put-at.ensures in
    let e2 = c.put_number-at.ensures in
    let e3 = c.put-at-2.ensures in
    let e4 = c.put_number-at-2.ensures in
    let e5 = c.put-at-3.ensures in
    let s1 : Begun c.args.part.now (start_up_letter c.args.start_up ∷ 0x2C ∷ []) c.put-at.new.part c.put-at.result = record { count = e1.count; text = rw c.letter.ensures at e1.text } in
    let s2 = behind s1 (decimal c.args.number) _ _ e2.count e2.text in
    let s3 = behind s2 (0x2C ∷ []) _ _ e3.count e3.text in
    let s4 = behind s3 (decimal c.args.tick.reading) _ _ e4.count e4.text in
    let s5 = behind s4 (0x2C ∷ how_letter c.args.tick.how ∷ 0x0A ∷ []) _ _ e5.count (rw c.letter-2.ensures at e5.text) in
    s5.text
