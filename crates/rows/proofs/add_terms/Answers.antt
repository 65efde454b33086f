use Prim.Native.Nat.{◌+◌}
use native.Mathlib.Omega.{arith}
use native.Mathlib.Nat.{le_antisymm}
use mathlib.Core.Path.{refl, ◌∙◌}
use lib.ListN.{length}
use Rattle.rows.proofs.TermLaws.{terms_to, terms-none, terms-group, terms-one}
use borrow.Author.Tests.{leb-true}
use borrow.Author.Rules.{rules}
use Rattle.rows.proofs.add_terms.Goals as goal

pub loop-t-init : goal.loop-t-init
loop-t-init c = (omega arith, refl, refl, terms-none _ _ _ _)

pub add_next-requires : goal.add_next-requires
add_next-requires c = (rw (c.loop-t.invariant.2, ← c.if-stride-eq-MAX_ROWS.true) c.requires, search rules)

pub loop-t-preserved-then-t-k : goal.loop-t-preserved-then-t-k
loop-t-preserved-then-t-k c = (omega (arith, leb-true (c.loop-t.t + 16) (length c.args.w.now) c.if-t-k.true-raw), search rules, search rules, c.add_next.ensures ∙ rw (c.loop-t.invariant.3, ← c.if-stride-eq-MAX_ROWS.true) (terms-group _ _ _ _ _ 16))

pub add_next-requires-then-t-k-2 : goal.add_next-requires-then-t-k-2
add_next-requires-then-t-k-2 c = (rw c.loop-t.invariant.2 c.requires, search rules)

pub loop-t-preserved-then-t-k-2 : goal.loop-t-preserved-then-t-k-2
loop-t-preserved-then-t-k-2 c = (omega arith, search rules, search rules, c.add_next-then-t-k-2.ensures ∙ rw c.loop-t.invariant.3 (terms-group _ _ _ _ _ 8))

pub overflow_mul-start : goal.overflow_mul-start
overflow_mul-start c = let h = c.requires c.loop-t.t (search rules) in omega arith

pub overflow_add-end : goal.overflow_add-end
overflow_add-end c = let h = c.requires c.loop-t.t (search rules) in omega arith

pub offset_bounds-xs-start : goal.offset_bounds-xs-start
offset_bounds-xs-start c = let h = c.requires c.loop-t.t (search rules) in omega arith

pub slice_bounds-add_one-start : goal.slice_bounds-add_one-start
slice_bounds-add_one-start c = let h = c.requires c.loop-t.t (search rules) in omega arith

pub slice_bounds-add_one-end : goal.slice_bounds-add_one-end
slice_bounds-add_one-end c = let h = c.requires c.loop-t.t (search rules) in omega arith

pub add_one-requires : goal.add_one-requires
add_one-requires c = let h = c.requires c.loop-t.t (search rules) in search rules

pub loop-t-preserved : goal.loop-t-preserved
loop-t-preserved c = (omega arith, search rules, search rules, c.add_one.ensures ∙ rw c.loop-t.invariant.3 (terms-one _ _ _ _ _ _ refl (c.requires c.loop-t.t (search rules))))

pub returns : goal.returns
unfolding terms_to
returns c = c.loop-t.invariant.3 ∙ rw (le_antisymm c.loop-t.invariant.0 (search rules))
