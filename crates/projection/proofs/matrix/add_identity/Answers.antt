use Rattle.floats.specs.Tables.{triangle}
use Rattle.floats.proofs.HalfLaws.{triangle-apart, half-of, rows_none, rows_all}
use Rattle.projection.proofs.IdentityLaws.{identified, identity-row}
use Prim.Native.Nat.{◌+◌, ◌≤◌}
use native.Mathlib.Omega.{arith}
use native.Mathlib.Nat.{le_antisymm}
use mathlib.Core.Path.{refl, ◌∙◌}
use lib.ListN.{length-set}
use Rattle.projection.proofs.matrix.add_identity.Goals as goal
use Rattle.projection.proofs.matrix.add_identity.Goals.{In-loop-i}

-- entry (i, i) stands within a
inside : (c : In-loop-i) → let i = c.loop-i.i in triangle i + (i + 1) ≤ triangle c.args.n
inside c = triangle-apart c.loop-i-test.true

pub loop-i-init : goal.loop-i-init
loop-i-init c = (omega arith, refl, half-of _ _ _ c.requires.0 (λ i j h k. refl) ∙ rows_none _ _ _)

pub offset_bounds-a-p : goal.offset_bounds-a-p
offset_bounds-a-p c = omega (arith, inside c.before)

pub bounds-a-p : goal.bounds-a-p
bounds-a-p c = omega (arith, inside c.before.before)

pub offset_bounds-a-p-in-loop-i : goal.offset_bounds-a-p-in-loop-i
offset_bounds-a-p-in-loop-i c = omega (arith, inside c.before.before)

pub bounds-a-p-in-loop-i : goal.bounds-a-p-in-loop-i
bounds-a-p-in-loop-i c = omega (arith, inside c.before.before)

pub loop-i-preserved : goal.loop-i-preserved
loop-i-preserved c = (omega arith, simp length-set (omega arith), rw (c.loop-i.invariant.2, c.place-p.ensures) (identity-row _ _ _ c.loop-i-test.true))

pub returns : goal.returns
unfolding identified
returns c = c.loop-i.invariant.2 ∙ rw (le_antisymm c.loop-i.invariant.0 c.loop-i-test.false) (rows_all _ _ _)
