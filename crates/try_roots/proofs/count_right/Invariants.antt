use Prim.Native.Nat.{◌≤◌}
use Rattle.try_roots.proofs.count_right.Given as goal

abbrev pub invariant-loop-words : goal.invariant-loop-words
invariant-loop-words g l = l.right ≤ l.words-index
