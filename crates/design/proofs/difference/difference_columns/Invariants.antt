-- The invariant: the columns of A X passed so far stand at their places, and the run keeps its length. Assumes nothing.
use Rattle.design.proofs.DifferenceLaws.{Differences}
use Prim.Native.Nat.{◌≤◌}
use mathlib.Core.Path.{◌≡◌}
use lib.ListN.{length}
use Rattle.design.proofs.difference.difference_columns.Given as goal

abbrev pub invariant-loop-j : goal.invariant-loop-j
invariant-loop-j l = (l.j ≤ l.k) × (length l.differences ≡ length l.initial.differences) × Differences l.columns l.n l.j l.differences
