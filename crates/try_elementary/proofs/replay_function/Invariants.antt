-- At each turn at most one vector more is met, and the next one is at most 5 words on. Assumes nothing.
use Prim.Native.Nat.{◌≤◌, ◌+◌, ◌*◌}
use Rattle.try_elementary.proofs.replay_function.Given as goal

abbrev pub invariant-loop-vector : goal.invariant-loop-vector
invariant-loop-vector g l = (l.met ≤ l._vector) × (l.k ≤ l.fn.from + 5 * l._vector)
