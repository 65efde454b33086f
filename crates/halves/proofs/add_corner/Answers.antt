use Prim.Native.Nat.{◌<◌}
use native.Mathlib.Omega.{arith}
use native.Mathlib.Nat.{le_antisymm}
use mathlib.Core.Path.{refl, sym, ◌∙◌}
use lib.ListN.{length, length-set}
use lib.Ieee.{nan}
use Rattle.floats.proofs.RowLaws.{filled_none, filled-here, filled_more, filled-all}
use Rattle.rows.proofs.TermLaws.{from-none, from_more}
use Rattle.halves.proofs.StepLaws.{start_none, start-more, corner_term, corner-more}
use borrow.Author.Rules.{rules}
use Rattle.halves.proofs.add_corner.Goals as goal

pub loop-s-init : goal.loop-s-init
loop-s-init c = (omega arith, refl, c.requires.2, sym (start_none _), filled_none _ _)

pub overflow_add-own : goal.overflow_add-own
overflow_add-own c = let h = c.requires.3 c.loop-s.s (search rules) in omega (arith, c.loop-s.invariant.3)

pub offset_bounds-xs-start : goal.offset_bounds-xs-start
offset_bounds-xs-start c = let h = c.requires.3 c.loop-s.s (search rules) in omega (arith, c.loop-s.invariant.3)

pub bounds-xs-start : goal.bounds-xs-start
bounds-xs-start c = let h = c.requires.3 c.loop-s.s (search rules) in omega (arith, c.loop-s.invariant.3)

pub loop-u-init : goal.loop-u-init
loop-u-init c = let h = c.requires.3 c.loop-s.s (search rules) in (omega arith, refl, filled_none _ _, sym (from-none _ _), omega (arith, c.loop-s.invariant.3))

pub loop-u-preserved : goal.loop-u-preserved
loop-u-preserved c = let h : c.loop-u.u < length c.loop-s.p = search rules in (omega arith, simp length-set (omega arith), rw (c.loop-u.invariant.2, filled-here _ _ _ nan h) (filled_more _ _ _ nan h), rw c.loop-u.invariant.3 (sym (from_more _ _ _)), search rules)

pub loop-s-preserved : goal.loop-s-preserved
loop-s-preserved c = let h : c.loop-s.s < length c.args.p.now = search rules in (omega arith, simp length-set (omega arith), search rules, rw c.loop-s.invariant.3 (sym (start-more _ _)), rw (c.loop-u.invariant.2, c.loop-u.invariant.3, le_antisymm c.loop-u.invariant.0 c.loop-u-test.false, c.loop-s.invariant.4) (corner-more c.args.p.now c.args.xs.now c.args.stride c.args.v.now c.loop-s.s c.loop-s.start c.loop-s.invariant.3 h))

pub returns : goal.returns
unfolding corner_term
returns c = c.loop-s.invariant.4 ∙ filled-all _ _ _ (search rules) (search rules) ∙ rw (le_antisymm c.loop-s.invariant.0 (search rules))
