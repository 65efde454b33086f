use Prim.Native.Nat.{◌≤◌, ◌*◌, ◌+◌}
use mathlib.Core.Path.{◌≡◌}
use lib.ListN.{length}
use Rattle.floats.specs.Words.{◌⊗◌, ◌‼◌}
use Rattle.floats.proofs.RowLaws.{filled}
use Rattle.rows.specs.Terms.{sum_from}
use Rattle.halves.specs.RowStarts.{row_start}
use Rattle.halves.proofs.add_eight.Given as goal

abbrev pub invariant-loop-j : goal.invariant-loop-j
invariant-loop-j l = (l.j ≤ length l.initial.row) × (length l.row ≡ length l.initial.row) × (l.j-end ≡ length l.initial.row) × (l.row ≡ filled (λ j. sum_from (l.initial.row ‼ j) 8 (λ s. l.xs ‼ (row_start l.stride s + j) ⊗ l.w ‼ s)) l.j l.initial.row) × (7 * l.stride + 21 + length l.initial.row ≤ length l.xs)
