-- No count is more than the sets so far. Assumes nothing.
use Prim.Native.Nat.{◌≤◌}
use Rattle.try_imhof.proofs.main.Given as goal

abbrev pub invariant-loop-i : goal.invariant-loop-i
invariant-loop-i l = (l.score.empty ≤ l.i) × (l.score.broken ≤ l.i) × (l.score.value ≤ l.i) × (l.score.wrong ≤ l.i)
