-- After the first numbers the front of `kept` holds the large ones among them, and the rest is as it was. Assumes nothing.
use mathlib.Core.List.{◌++◌}
use lib.ListN.{length, take, drop}
use Rattle.eigen.specs.Kept.{large}
use Prim.Native.Nat.{◌≤◌}
use mathlib.Core.Path.{◌≡◌}
use Rattle.eigen.proofs.order.keep.Given as goal

abbrev pub invariant-loop-x : goal.invariant-loop-x
invariant-loop-x l = (l.x-index ≤ l.m) × (l.count ≤ l.x-index) × (l.count ≡ length (large (take l.x-index l.d))) × (l.kept ≡ large (take l.x-index l.d) ++ drop l.count l.initial.kept)
