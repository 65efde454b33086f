-- What was read so far lies within the room, and each turn that goes on reads more. Assumes nothing.
use Prim.Native.Nat.{◌≤◌, ◌-◌}
use lib.ListN.{length}
use Rattle.console.proofs.read_input.Given as goal

abbrev pub invariant-loop-size : goal.invariant-loop-size
invariant-loop-size g l = l.size ≤ length l.file

abbrev pub decreases-loop-size : goal.decreases-loop-size
decreases-loop-size g l = length l.file - l.size
