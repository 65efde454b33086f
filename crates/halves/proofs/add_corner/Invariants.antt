-- In the turn for row s the inner loop gives each number before s its term of that row, while `sum` takes the terms of number s. Assumes nothing.
use Prim.Native.Nat.{◌≤◌, ◌+◌}
use mathlib.Core.Path.{◌≡◌}
use lib.ListN.{length}
use Rattle.floats.specs.Words.{◌⊕◌, ◌⊗◌, ◌‼◌}
use Rattle.floats.proofs.RowLaws.{filled}
use Rattle.rows.specs.Terms.{sum_from}
use Rattle.halves.specs.RowStarts.{row_start}
use Rattle.halves.proofs.StepLaws.{corner_to}
use Rattle.halves.proofs.add_corner.Given as goal

abbrev pub invariant-loop-u : goal.invariant-loop-u
invariant-loop-u l = (l.u ≤ l.s) × (length l.p ≡ length l.initial.p) × (l.p ≡ filled (λ t. l.initial.p ‼ t ⊕ l.xs ‼ (l.start + t) ⊗ l.x) l.u l.initial.p) × (l.sum ≡ sum_from l.initial.sum l.u (λ t. l.xs ‼ (l.start + t) ⊗ l.v ‼ t)) × (l.start + (l.s + 1) ≤ length l.xs)

abbrev pub invariant-loop-s : goal.invariant-loop-s
invariant-loop-s l = (l.s ≤ length l.initial.p) × (length l.p ≡ length l.initial.p) × (l.s-end ≡ length l.initial.p) × (l.start ≡ row_start l.stride l.s) × (l.p ≡ corner_to l.initial.p l.xs l.stride l.v l.s)
