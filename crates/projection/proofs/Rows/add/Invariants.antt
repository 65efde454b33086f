-- After i turns the first i rows have got the block. Assumes nothing.
use Rattle.projection.proofs.RoomLaws.{block_to}
use Prim.Native.Nat.{◌≤◌}
use mathlib.Core.Path.{◌≡◌}
use lib.ListN.{length}
use Rattle.projection.proofs.Rows.add.Given as goal

abbrev pub invariant-loop-i : goal.invariant-loop-i
invariant-loop-i l = (l.i ≤ l.self.maker.n) × (length l.mam ≡ length l.initial.mam) × (l.mam ≡ block_to l.self.maker.n l.self.block.first l.self.block.count l.initial.mam l.self.maker.m.now l.i)
