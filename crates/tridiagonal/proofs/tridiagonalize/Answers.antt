use Rattle.tridiagonal.proofs.UpdateLaws.{reflections-none, reflections-more}
use lib.ListN.{length-take, length-drop, length-append}
use lib.Ieee.{Float}
use Prim.Native.Nat.{◌-◌}
use native.Mathlib.Omega.{arith}
use native.Mathlib.Nat.{le_antisymm}
use mathlib.Core.Path.{◌≡◌, refl, ◌∙◌}
use borrow.Author.Rules.{rules}
use Rattle.tridiagonal.proofs.tridiagonalize.Goals as goal

pub returns-then-n-lt2 : goal.returns-then-n-lt2
returns-then-n-lt2 c = let z : c.args.n - 2 ≡ 0 = search rules in rw z (reflections-none _ _ c.requires.0)

pub loop-c-init : goal.loop-c-init
loop-c-init c = (omega arith, refl, refl, reflections-none _ _ c.requires.0, search rules, search rules)

pub slice_bounds-reflect-end : goal.slice_bounds-reflect-end
slice_bounds-reflect-end c = simp length-take (omega arith)

pub slice_bounds-reflect-end-in-loop-c : goal.slice_bounds-reflect-end-in-loop-c
slice_bounds-reflect-end-in-loop-c c = simp length-take (omega arith)

pub reflect-requires : goal.reflect-requires
reflect-requires c = (search rules, search rules, simp length-take (omega arith), simp length-take (omega arith))

pub loop-c-preserved : goal.loop-c-preserved
loop-c-preserved c = let loop = c.loop-c in
    let reflect = c.reflect in
    (search rules, search rules, search rules, reflect.ensures ∙ rw loop.invariant.3 (reflections-more _ _ _), simp (length-append, length-drop) (omega (arith, length-take {A = Float})), simp (length-append, length-drop) (omega (arith, length-take {A = Float})))

pub returns : goal.returns
returns c = c.loop-c.invariant.3 ∙ rw (le_antisymm c.loop-c.invariant.0 (search rules))
