use native.Mathlib.Omega.{arith}
use mathlib.Core.Path.{refl, sym, ◌∙◌}
use lib.ListN.{length-set}
use lib.Ieee.{nan}
use Rattle.floats.proofs.RowLaws.{filled_none, filled_more, filled-all}
use Rattle.halves.proofs.StepLaws.{start_none, start-more, dot_term, one-sum}
use borrow.Author.Rules.{rules}
use Rattle.halves.proofs.row_dots.Goals as goal

pub eight_dots-requires : goal.eight_dots-requires
eight_dots-requires c = (search rules, rw c.if-p-eq8.true at c.requires.2)

pub returns-then-p-eq8 : goal.returns-then-p-eq8
returns-then-p-eq8 c = rw c.if-p-eq8.true (c.copy_from_slice.ensures.after ∙ c.eight_dots.ensures)

pub loop-t-init : goal.loop-t-init
loop-t-init c = (omega arith, refl, refl, sym (start_none _), filled_none _ _)

pub sum_products-requires : goal.sum_products-requires
sum_products-requires c = let h = c.requires.2 c.loop-t.t (search rules) in search rules

pub overflow_add-start-in-loop-t : goal.overflow_add-start-in-loop-t
overflow_add-start-in-loop-t c = let h = c.requires.2 c.loop-t.t (search rules) in omega (arith, c.loop-t.invariant.3)

pub loop-t-preserved : goal.loop-t-preserved
loop-t-preserved c = (omega arith, simp length-set (omega arith), search rules, rw c.loop-t.invariant.3 (sym (start-more _ _)), rw (c.loop-t.invariant.4, c.sum_products.ensures, one-sum _ _ _ _ _ c.loop-t.invariant.3) (filled_more _ _ _ nan (search rules)))

pub returns : goal.returns
unfolding dot_term
returns c = c.loop-t.invariant.4 ∙ filled-all _ _ _ (search rules) (search rules)
