use Rattle.floats.proofs.HalfLaws.{half-of, triangle-apart}
use Rattle.tridiagonal.proofs.UpdateLaws.{cleared-none, cleared_more, cleared-all}
use native.Mathlib.Omega.{arith}
use native.Mathlib.Nat.{le_antisymm}
use mathlib.Core.Path.{refl, ◌∙◌}
use lib.ListN.{length-set}
use borrow.Author.Rules.{rules}
use Rattle.tridiagonal.proofs.reflection.lead_column.Goals as goal

pub loop-i-init : goal.loop-i-init
loop-i-init c = (omega arith, omega arith, refl, half-of _ _ _ c.requires.0.0 (λ i j h k. refl) ∙ cleared-none _ _ _)

pub offset_bounds-a-place : goal.offset_bounds-a-place
offset_bounds-a-place c = omega (arith, triangle-apart c.loop-i-test.true)

pub bounds-a-place : goal.bounds-a-place
bounds-a-place c = omega (arith, triangle-apart c.loop-i-test.true)

pub loop-i-preserved : goal.loop-i-preserved
loop-i-preserved c = (omega arith, omega arith, simp length-set (omega arith), rw (c.loop-i.invariant.3, c.place-place.ensures) (cleared_more _ _ _ _ c.loop-i.invariant.0 (search rules)))

pub offset_bounds-a-first : goal.offset_bounds-a-first
offset_bounds-a-first c = omega (arith, triangle-apart c.requires.1)

pub bounds-a-first : goal.bounds-a-first
bounds-a-first c = omega (arith, triangle-apart c.requires.1)

pub returns : goal.returns
returns c = rw (c.loop-i.invariant.3, c.place-first.ensures, le_antisymm c.loop-i.invariant.1 (search rules)) (cleared-all _ _ _ _ c.requires.1)
