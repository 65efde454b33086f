-- After s turns the first s numbers are copied, and `at` is the place of entry (from + s, i). Assumes nothing.
use Prim.Native.Nat.{◌≤◌, ◌+◌}
use mathlib.Core.Path.{◌≡◌}
use lib.ListN.{length}
use Rattle.floats.specs.Tables.{triangle}
use Rattle.floats.specs.Matrix.{half_entry}
use Rattle.floats.proofs.RowLaws.{filled}
use Rattle.halves.proofs.copy_column.Given as goal

abbrev pub invariant-loop-s : goal.invariant-loop-s
invariant-loop-s l = (l.s ≤ length l.initial.row) × (length l.row ≡ length l.initial.row) × (l.s-end ≡ length l.initial.row) × (l.at ≡ triangle (l.from + l.s) + l.i) × (l.row ≡ filled (λ s. half_entry l.a l.i (l.from + s)) l.s l.initial.row)
