use native.Mathlib.Omega.{arith}
use native.Mathlib.Numerals.{add-one}
use mathlib.Core.Path.{◌≡◌, refl}
use Prim.Native.Nat.{ℕ, ◌*◌, ◌+◌, ◌<◌}
use lib.Ieee.{Float, nan}
use lib.ListN.{set, get_or, take, length-set}
use lib.Seq.{get_or-take}
use Rattle.floats.specs.Turns.{turns}
use Rattle.floats.specs.Words.{◌⊖◌, ◌⊗◌, ◌⊕◌}
use Rattle.imhof.specs.Rule.{nodes, middle_of, half_width}
use Rattle.imhof.proofs.rule.laid.Invariants.{stored_after}
use Rattle.imhof.proofs.rule.laid.Goals as goal

-- node i of the first seven is node i
one_more : (c h : Float) (i : ℕ) → i < 7 → set (set (stored_after c h i) (2 * i) (c ⊖ h ⊗ get_or (take 7 nodes) i nan)) (2 * i + 1) (c ⊕ h ⊗ get_or (take 7 nodes) i nan) ≡ stored_after c h (i + 1)
unfolding turns
one_more c h i l = rw (add-one i, get_or-take 7 nodes i nan l)

pub loop-i-init : goal.loop-i-init
unfolding turns
loop-i-init c = (refl, refl)

pub loop-i-preserved : goal.loop-i-preserved
loop-i-preserved c = let l = c.loop-i in
    (simp length-set l.invariant.0, rw l.invariant.1 (one_more (middle_of c.args.a c.args.b) (half_width c.args.a c.args.b) l.i (omega arith)))

pub returns : goal.returns
unfolding turns
returns c = let all : c.loop-i.i ≡ 7 = omega arith in
    rw (c.loop-i.invariant.1, all)
