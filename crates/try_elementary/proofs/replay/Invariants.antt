-- Each of the seven functions has below 4096 vectors of at most 5 words, so the word it has come to stays small. Assumes nothing.
use Prim.Native.Nat.{◌≤◌, ◌+◌, ◌*◌}
use Rattle.try_elementary.proofs.replay.Given as goal

abbrev pub invariant-loop-function : goal.invariant-loop-function
invariant-loop-function g l = l.from ≤ 7 + 20480 * l.function-index
