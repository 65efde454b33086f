use native.Mathlib.Omega.{arith}
use native.Mathlib.Nat.{le_antisymm}
use mathlib.Core.Path.{refl, sym, ◌∙◌}
use Rattle.rows.proofs.TermLaws.{terms_to, terms-none, terms-one}
use Rattle.halves.proofs.StepLaws.{start_none, start-more}
use borrow.Author.Rules.{rules}
use Rattle.halves.proofs.add_rows.Goals as goal

pub add_eight-requires : goal.add_eight-requires
add_eight-requires c = (search rules, rw c.if-w-eq8.true at c.requires.2, search rules)

pub returns-then-w-eq8 : goal.returns-then-w-eq8
returns-then-w-eq8 c = rw c.if-w-eq8.true c.add_eight.ensures

pub loop-t-init : goal.loop-t-init
loop-t-init c = (omega arith, refl, refl, sym (start_none _), terms-none _ _ _ _)

pub overflow_add-end : goal.overflow_add-end
overflow_add-end c = let h = c.requires.2 c.loop-t.t (search rules) in omega (arith, c.loop-t.invariant.3)

pub offset_bounds-xs-start : goal.offset_bounds-xs-start
offset_bounds-xs-start c = let h = c.requires.2 c.loop-t.t (search rules) in omega (arith, c.loop-t.invariant.3)

pub slice_bounds-add_one-start : goal.slice_bounds-add_one-start
slice_bounds-add_one-start c = let h = c.requires.2 c.loop-t.t (search rules) in omega (arith, c.loop-t.invariant.3)

pub slice_bounds-add_one-end : goal.slice_bounds-add_one-end
slice_bounds-add_one-end c = let h = c.requires.2 c.loop-t.t (search rules) in omega (arith, c.loop-t.invariant.3)

pub add_one-requires : goal.add_one-requires
add_one-requires c = let h = c.requires.2 c.loop-t.t (search rules) in search rules

pub overflow_add-start-in-loop-t : goal.overflow_add-start-in-loop-t
overflow_add-start-in-loop-t c = let h = c.requires.2 c.loop-t.t (search rules) in omega (arith, c.loop-t.invariant.3)

pub loop-t-preserved : goal.loop-t-preserved
loop-t-preserved c = (omega arith, search rules, search rules, rw c.loop-t.invariant.3 (sym (start-more _ _)), c.add_one.ensures ∙ rw c.loop-t.invariant.4 (terms-one _ _ _ _ _ _ c.loop-t.invariant.3 (c.requires.2 c.loop-t.t (search rules))))

pub returns : goal.returns
unfolding terms_to
returns c = c.loop-t.invariant.4 ∙ rw (le_antisymm c.loop-t.invariant.0 (search rules))
