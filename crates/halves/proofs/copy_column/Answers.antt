use Prim.Native.Nat.{◌+◌}
use native.Mathlib.Omega.{arith}
use mathlib.Core.Path.{◌≡◌, refl, ◌∙◌}
use lib.ListN.{length-set}
use Rattle.floats.proofs.RowLaws.{filled_none, filled-all}
use Rattle.halves.proofs.CopyLaws.{column-in, column-more, column-next}
use borrow.Author.Rules.{rules}
use Rattle.halves.proofs.copy_column.Goals as goal

pub loop-s-init : goal.loop-s-init
loop-s-init c = let z : c.args.from + 0 ≡ c.args.from = omega arith in (omega arith, refl, refl, rw z c.place-at.ensures, filled_none _ _)

pub offset_bounds-a-at : goal.offset_bounds-a-at
offset_bounds-a-at c = let h = column-in c.loop-s.invariant.3 (search rules) c.requires.2 c.requires.3 in search rules

pub bounds-a-at : goal.bounds-a-at
bounds-a-at c = column-in c.loop-s.invariant.3 (search rules) c.requires.2 c.requires.3

pub overflow_add-at-in-loop-s-2 : goal.overflow_add-at-in-loop-s-2
overflow_add-at-in-loop-s-2 c = let h = column-in c.loop-s.invariant.3 (search rules) c.requires.2 c.requires.3 in omega arith

pub loop-s-preserved : goal.loop-s-preserved
loop-s-preserved c = (omega arith, simp length-set (omega arith), search rules, rw c.loop-s.invariant.3 (column-next _ _ _), rw c.loop-s.invariant.4 (column-more c.loop-s.invariant.3 (search rules) c.requires.2 _ _ refl))

pub returns : goal.returns
returns c = c.loop-s.invariant.4 ∙ filled-all _ _ _ (search rules) (search rules)
