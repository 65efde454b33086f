use Prim.Native.Nat.{◌<◌}
use native.Mathlib.Nat.{zero-add}
use native.Mathlib.Omega.{arith}
use mathlib.Core.Path.{refl, sym, ◌∙◌}
use lib.ListN.{length, length-set}
use lib.Ieee.{nan}
use Rattle.floats.specs.Words.{◌‼◌}
use Rattle.floats.proofs.RowLaws.{filled_none, filled-here, filled_more, filled-all}
use Rattle.halves.specs.RowStarts.{row_start}
use Rattle.rows.proofs.TermLaws.{from-none, four-more}
use Rattle.halves.proofs.StepLaws.{start-fifth, eight-reach}
use borrow.Author.Rules.{rules}
use Rattle.halves.proofs.add_eight.Goals as goal

pub loop-j-init : goal.loop-j-init
loop-j-init c = (omega arith, refl, refl, filled_none _ _, eight-reach _ _ _ c.requires.1)

pub loop-j-preserved : goal.loop-j-preserved
loop-j-preserved c = let h : c.loop-j.j < length c.args.row.now = search rules in (omega arith, simp length-set (omega arith), search rules, rw (four-more (c.args.row.now ‼ c.loop-j.j) c.args.xs.now c.args.w.now (row_start c.args.stride) c.loop-j.j 4 _ _ _ c.four_steps.ensures (four-more (c.args.row.now ‼ c.loop-j.j) c.args.xs.now c.args.w.now (row_start c.args.stride) c.loop-j.j 0 _ _ _ c.four_steps-a.ensures (rw (c.loop-j.invariant.3, filled-here _ _ _ nan h) (sym (from-none _ _))) (λ t. rw zero-add (omega arith))) (λ t. start-fifth c.args.stride t c.loop-j.j), c.loop-j.invariant.3) (filled_more _ _ _ nan h), search rules)

pub returns : goal.returns
returns c = c.loop-j.invariant.3 ∙ filled-all _ _ _ (search rules) (search rules)
