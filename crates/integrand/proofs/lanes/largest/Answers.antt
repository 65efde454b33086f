use native.Mathlib.Omega.{arith}
use mathlib.Core.Path.{◌≡◌, refl, ap, ◌∙◌}
use lib.Ieee.{is_nan, lt, of_bits}
use mathlib.Core.Bool.{true}
use mathlib.Core.Logic.{inl, inr}
use Rattle.floats.specs.Words.{◌‼◌, plus_zero}
use Rattle.floats.specs.Signs.{minus}
use Rattle.floats.proofs.OrderLaws.{above-plus, above-number}
use Rattle.integrand.proofs.LaneLaws.{upto-more, upto-same}
use Rattle.integrand.proofs.lanes.largest.Goals.{then-most-x, else-most-x}
use Rattle.integrand.proofs.lanes.largest.Goals as goal

pub loop-x-init : goal.loop-x-init
unfolding minus is_nan of_bits
loop-x-init c = (refl, refl, λ i h. absurd (omega arith))

pub returns-then-not-x : goal.returns-then-not-x
unfolding is_nan of_bits
returns-then-not-x c = inl refl

pub loop-x-preserved : goal.loop-x-preserved
loop-x-preserved c =
    let l = c.loop-x in
    let us = c.args.u.now in
    let above : lt plus_zero (us ‼ l.x-index) ≡ true = c.if-not-x.false in
    elim c.if-most-x.branch [
      | then-most-x w ↦ (ap minus w.most-is ∙ above-plus (us ‼ l.x-index) above, ap is_nan w.most-is ∙ above-number (us ‼ l.x-index) above, rw w.most-is (upto-more us l.x-index l.most l.invariant.0 l.invariant.1 l.invariant.2 above w.if-most-x.true))
      | else-most-x w ↦ (ap minus w.most-is ∙ l.invariant.0, ap is_nan w.most-is ∙ l.invariant.1, rw w.most-is (upto-same us l.x-index l.most l.invariant.0 l.invariant.1 l.invariant.2 above w.if-most-x.false))
    ]
