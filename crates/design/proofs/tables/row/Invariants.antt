-- The row so far has the first j numbers of any function whose values the calls give. Assumes nothing.
use Rattle.std.proofs.Common.{◌≡◌, ℕ, ◌<◌, ◌≤◌, Float}
use Rattle.floats.proofs.RowLaws.{filled}
use Rattle.design.specs.Matrix.{zero_row}
use Rattle.design.proofs.tables.row.Given as goal

abbrev pub invariant-loop-j : goal.invariant-loop-j
invariant-loop-j g l = (l.j ≤ l.k) × ((f : ℕ → Float) → ((j : ℕ) (x : Float) → j < l.k → goal.F-post g l.number j x → x ≡ f j) → l.row ≡ filled f l.j zero_row)
