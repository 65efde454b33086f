-- The numbers before j have their terms more, and the sum of number j its first 4 q. Assumes nothing.
use Rattle.std.proofs.Common.{◌≡◌, ◌+◌, ◌*◌}
use Rattle.floats.specs.Words.{◌⊗◌, ◌‼◌}
use Rattle.floats.proofs.RowLaws.{filled}
use Rattle.rows.specs.Terms.{sum_from}
use Rattle.rows.proofs.add_next.Given as goal

abbrev pub invariant-loop-j : goal.invariant-loop-j
invariant-loop-j g l = l.row ≡ filled (λ j. sum_from (l.initial.row ‼ j) (4 * g.row.FOURS) (λ s. l.xs ‼ ((l.t + s) * l.stride + j) ⊗ l.w ‼ (l.t + s))) l.j l.initial.row

abbrev pub invariant-loop-q : goal.invariant-loop-q
invariant-loop-q g l = l.sum ≡ sum_from l.initial.sum (4 * l.q) (λ s. l.xs ‼ ((l.t + s) * l.stride + l.j) ⊗ l.w ‼ (l.t + s))
