-- After i insertions the first i numbers fall, and the rest is as it was. Assumes nothing.
use mathlib.Core.List.{◌++◌}
use lib.ListN.{drop}
use Rattle.eigen.specs.Kept.{falling}
use Prim.Native.Nat.{◌≤◌}
use mathlib.Core.Path.{◌≡◌}
use lib.ListN.{length}
use Rattle.eigen.proofs.order.order.Given as goal

abbrev pub invariant-loop-i : goal.invariant-loop-i
invariant-loop-i l = (l.i ≤ l.n) × (length l.d ≡ length l.initial.d) × (l.d ≡ falling l.initial.d l.i ++ drop l.i l.initial.d)
