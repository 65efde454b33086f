-- The loop's invariant: each number before j is what `f` made of it, and the others are as they were. Assumes nothing.
use Rattle.std.proofs.Common.{◌≡◌, ℕ, ◌≤◌, ◌<◌}
use Rattle.floats.specs.Words.{◌‼◌}
use Rattle.rows.proofs.update.Given as goal

abbrev pub invariant-loop-j : goal.invariant-loop-j
invariant-loop-j g l = record {
  done : (i : ℕ) → i < l.j → goal.F-post g l.f i (l.initial.row ‼ i) (l.row ‼ i);
  rest : (i : ℕ) → l.j ≤ i → l.row ‼ i ≡ l.initial.row ‼ i;
}
