use Rattle.floats.proofs.HalfLaws.{triangle-apart}
use Rattle.tridiagonal.proofs.UpdateLaws.{update-none, update-row, update_all}
use Prim.Native.Nat.{◌+◌}
use native.Mathlib.Omega.{arith}
use native.Mathlib.Nat.{le_antisymm}
use mathlib.Core.Path.{refl, ◌∙◌}
use borrow.Author.Rules.{rules}
use Rattle.tridiagonal.proofs.reflection.update.Goals as goal

pub loop-t-init : goal.loop-t-init
loop-t-init c = (omega arith, search rules, refl, update-none _ _ _ _ _ c.requires.0.0)

pub overflow_add-end-in-loop-t : goal.overflow_add-end-in-loop-t
overflow_add-end-in-loop-t c = omega (arith, triangle-apart {i = c.args.c + 1 + c.loop-t.t} {r = c.args.n} (search rules))

pub offset_bounds-a-start : goal.offset_bounds-a-start
offset_bounds-a-start c = omega (arith, triangle-apart {i = c.args.c + 1 + c.loop-t.t} {r = c.args.n} (search rules))

pub slice_bounds-take_multiples-end : goal.slice_bounds-take_multiples-end
slice_bounds-take_multiples-end c = omega (arith, triangle-apart {i = c.args.c + 1 + c.loop-t.t} {r = c.args.n} (search rules))

pub loop-t-preserved : goal.loop-t-preserved
loop-t-preserved c = (omega arith, search rules, search rules, rw (c.take_multiples.ensures, c.loop-t.invariant.3) (update-row _ _ _ _ _ _ _ _ c.requires.3 (search rules) c.place-start.ensures (search rules)))

pub returns : goal.returns
returns c = c.loop-t.invariant.3 ∙ rw (le_antisymm c.loop-t.invariant.0 (search rules)) (update_all _ _ _ _ _ c.requires.3)
