use Prim.Native.Nat.{ℕ, suc, ◌*◌, ◌+◌, ◌<◌}
use mathlib.Core.List.{List}
use lib.Ieee.{Float, nan}
use lib.ListN.{get_or, take}
use lib.Seq.{get_or-take}
use Rattle.floats.specs.Words.{◌⊗◌, ◌⊕◌}
use Rattle.imhof.specs.Rule.{kronrod, pair_at}
use Rattle.imhof.proofs.rule.gathered.Invariants.{kronrod_after}
use native.Mathlib.Omega.{arith}
use native.Mathlib.Numerals.{add-one}
use mathlib.Core.Path.{◌≡◌, refl, ◌∙◌}
use Prim.Native.Nat.{◌/◌, ◌%◌}
use Rattle.floats.specs.Turns.{turns}
use Rattle.imhof.proofs.rule.gathered.Goals.{then-i-eq1, else-i-eq1}
use Rattle.imhof.proofs.rule.gathered.Goals as goal

-- weight i of the first seven is weight i
one_more : (fs : List Float) (i : ℕ) → i < 7 → kronrod_after fs i ⊕ get_or (take 7 kronrod) i nan ⊗ pair_at fs i ≡ kronrod_after fs (i + 1)
unfolding turns
one_more fs i l = rw (add-one i, get_or-take 7 kronrod i nan l)

pub loop-i-init : goal.loop-i-init
unfolding turns
loop-i-init c = (omega arith, refl, refl)

pub loop-i-preserved : goal.loop-i-preserved
unfolding turns
loop-i-preserved c =
    let i = c.loop-i.i in
    elim c.if-i-eq1.branch [
      | then-i-eq1 w ↦
          let odd : i % 2 ≡ 1 = w.if-i-eq1.true in
          let up : (i + 1) / 2 ≡ suc (i / 2) = omega arith in
          let place : 2 * (i / 2) + 1 ≡ i = omega arith in
          (omega arith, rw c.loop-i.invariant.1 (one_more c.args.f.now i (omega arith)), w.g-is ∙ rw (up, place, c.loop-i.invariant.2))
      | else-i-eq1 w ↦
          let even : i % 2 ≡ 1 → ⊥ = w.if-i-eq1.false in
          let same : (i + 1) / 2 ≡ i / 2 = omega arith in
          (omega arith, rw c.loop-i.invariant.1 (one_more c.args.f.now i (omega arith)), w.g-is ∙ rw same c.loop-i.invariant.2)
    ]
