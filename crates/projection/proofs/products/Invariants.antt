-- Before each block each entry is the sum of its first terms, up to the block's. Assumes nothing.
use Rattle.floats.specs.Tables.{triangle}
use Rattle.projection.proofs.ProductLaws.{product_to}
use Prim.Native.Nat.{◌-◌, min}
use mathlib.Core.Path.{◌≡◌}
use lib.ListN.{length}
use Rattle.projection.proofs.products.Given as goal

abbrev pub invariant-loop-first : goal.invariant-loop-first
invariant-loop-first g l = (length l.mam ≡ triangle l.maker.n) × (length l.w ≡ g.row.W) × (length l.before ≡ g.row.N) × (length l.here ≡ g.row.N) × (l.mam ≡ product_to l.maker.n l.maker.m.now (min l.first l.maker.n))

abbrev pub decreases-loop-first : goal.decreases-loop-first
decreases-loop-first g l = l.maker.n - l.first
