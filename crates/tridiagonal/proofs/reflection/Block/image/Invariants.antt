-- Before each turn the first r numbers have their first r terms. A group brings the numbers before it their next terms, and its own numbers all theirs so far. Assumes nothing.
use Rattle.floats.proofs.RowLaws.{filled}
use Rattle.tridiagonal.specs.Reflection.{below}
use Rattle.tridiagonal.proofs.ImageLaws.{image_to}
use Prim.Native.Nat.{◌≤◌, ◌-◌}
use mathlib.Core.Path.{◌≡◌}
use lib.ListN.{length}
use Rattle.tridiagonal.proofs.reflection.Block.image.Given as goal

abbrev pub invariant-loop-r : goal.invariant-loop-r
invariant-loop-r l = (l.r ≤ below l.self.n l.self.c) × (l.m ≡ below l.self.n l.self.c) × (length l.p ≡ below l.self.n l.self.c) × (l.p ≡ filled (image_to l.self.n l.self.c l.self.a.now l.self.v.now l.r) l.r l.initial.p)

abbrev pub decreases-loop-r : goal.decreases-loop-r
decreases-loop-r l = below l.self.n l.self.c - l.r
