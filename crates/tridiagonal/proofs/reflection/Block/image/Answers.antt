use Rattle.floats.proofs.RowLaws.{filled_none, filled-all}
use Rattle.tridiagonal.proofs.ImageLaws.{image-more, image-all}
use native.Mathlib.Omega.{arith}
use native.Mathlib.Nat.{le_antisymm}
use mathlib.Core.Path.{◌∙◌}
use borrow.Author.Rules.{rules}
use Rattle.tridiagonal.proofs.reflection.Block.image.Goals as goal

pub loop-r-init : goal.loop-r-init
loop-r-init c = (omega arith, search rules, search rules, filled_none _ _)

pub loop-r-preserved : goal.loop-r-preserved
loop-r-preserved c = let loop = c.loop-r in
    (search rules, search rules, search rules, rw c.sum_group.ensures (image-more _ _ _ _ _ _ (search rules) _ _ _ loop.invariant.3 c.add_group.ensures))

pub returns : goal.returns
returns c = c.loop-r.invariant.3 ∙ filled-all _ _ _ (search rules) (search rules) ∙ image-all _ _ _ _ c.args.p.now _ (le_antisymm c.loop-r.invariant.0 (search rules)) c.requires
