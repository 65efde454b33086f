-- The fronts of the two runs are the entry's residuals and columns, and the rooms are as long as they are lent. Assumes nothing.
use Prim.Native.Nat.{ℕ}
use mathlib.Core.Path.{◌≡◌}
use mathlib.Core.List.{List}
use lib.Ieee.{Float}
use lib.ListN.{replicate, length-replicate}
use Rattle.floats.specs.Words.{plus_zero}
use Rattle.outcome.specs.Codes.{alternative_of, choice_of}
use Rattle.outcome.specs.Rooms.{room_of, part_room}
use Rattle.outcome.specs.declared.Alternative.{Alternative}
use Rattle.outcome.specs.declared.Choice.{Choice}
use Rattle.outcome.specs.declared.Outcome.{Outcome}
use Rattle.dwtest.specs.Test.{test_of}
use Rattle.sheet.specs.Contents.{most_numbers, residuals_of, columns_of}
use Rattle.sheet.specs.declared.file.Entry.{Entry}
use Rattle.sheet.proofs.Theorems.{residuals-read, columns-read}
use Rattle.answers.specs.Answer.{lent_rows, result_of}
use Rattle.answers.proofs.result_of.Goals as goal

tested : (file : List ℕ) (e : Entry) {residuals columns : List Float} {alternative : Alternative} {choice : Choice} {matrix parts : ℕ} {r : Outcome} → r ≡ test_of residuals columns e.columns alternative choice matrix parts → residuals ≡ residuals_of file e → columns ≡ columns_of file e
    → alternative ≡ alternative_of e.alternative → choice ≡ choice_of e.choice → matrix ≡ room_of lent_rows → parts ≡ part_room → r ≡ result_of lent_rows file e
tested file e t p q a b m n = rw (t, p, q, a, b, m, n)

pub returns : goal.returns
returns c = let file = c.args.file.now in
    let e = c.args.e in
    let residuals = residuals-read file e (replicate most_numbers plus_zero) c.requires.0 (simp length-replicate c.requires.1) c.read_residuals-n.ensures.value c.read_residuals-n.ensures.run_after in
    let columns = columns-read file e (replicate most_numbers plus_zero) c.requires.0 (simp length-replicate c.requires.2) c.read_columns-m.ensures.value c.read_columns-m.ensures.run_after in
    tested file e c.durbin_watson_test.ensures.value residuals.1 columns.1 c.alternative_of.ensures c.choice_of.ensures (length-replicate (room_of lent_rows) plus_zero) (length-replicate part_room plus_zero)
