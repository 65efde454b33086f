use Rattle.projection.proofs.RoomLaws.{block_none, block_row, block-all}
use native.Mathlib.Omega.{arith}
use native.Mathlib.Nat.{le_antisymm}
use mathlib.Core.Path.{refl, ◌∙◌}
use borrow.Author.Rules.{rules}
use Rattle.projection.proofs.Rows.add.Goals as goal

pub loop-i-init : goal.loop-i-init
loop-i-init c = let s = c.args.self.now in (omega arith, refl, block_none s.maker.n s.block.first s.block.count c.args.mam.now s.maker.m.now c.requires.0)

pub loop-i-preserved : goal.loop-i-preserved
loop-i-preserved c = let s = c.args.self.now in (omega arith, search rules, c.add_to_row.ensures ∙ block_row s.maker.n s.block.first s.block.count c.args.mam.now s.maker.m.now s.stride c.loop-i.i c.loop-i.mam s.w.now c.loop-i-test.true c.loop-i.invariant.2 s.loaded)

pub returns : goal.returns
returns c = let s = c.args.self.now in c.loop-i.invariant.2 ∙ rw (le_antisymm c.loop-i.invariant.0 c.loop-i-test.false) (block-all s.maker.n s.block.first s.block.count c.args.mam.now s.maker.m.now)
