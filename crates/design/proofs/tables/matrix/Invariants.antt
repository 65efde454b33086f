-- The matrix so far has the first i rows of any function whose values the calls give. Assumes nothing.
use Rattle.std.proofs.Common.{◌≡◌, ℕ, ◌<◌, ◌≤◌, Float}
use Rattle.floats.proofs.RowLaws.{filled}
use Rattle.design.specs.Matrix.{zero_matrix, row}
use Rattle.design.proofs.tables.matrix.Given as goal

abbrev pub invariant-loop-i : goal.invariant-loop-i
invariant-loop-i g l = (l.i-counter ≤ l.k) × ((f : ℕ → ℕ → Float) → ((i j : ℕ) (x : Float) → i < l.k → j < l.k → goal.F-post g l.entry i j x → x ≡ f i j) → l.rows ≡ filled (λ i. row l.k (f i)) l.i-counter zero_matrix)
