-- Where w times the largest u is near a point of the table, so is the size of w times every u; then the terms that add_near adds are the weight's, of either sign (LaneLaws).
use mathlib.Core.Bool.{true, false}
use mathlib.Core.Path.{◌≡◌, sym, subst, ◌∙◌}
use lib.Dec.{T}
use Rattle.floats.specs.Signs.{minus}
use Rattle.integrand.proofs.LaneLaws.{lanes-near, lanes-angles, lanes-logs}
use Rattle.integrand.proofs.lanes.add_weight.Goals as goal

pub add_near-requires : goal.add_near-requires
add_near-requires c = let s = c.args in
    lanes-near s.w s.most s.u.now c.requires (subst T (sym c.if-x.true) tt) true (sym c.is_minus.ensures ∙ c.if-is_minus.true)

pub add_near-requires-else-is_minus : goal.add_near-requires-else-is_minus
add_near-requires-else-is_minus c = let s = c.args in
    lanes-near s.w s.most s.u.now c.requires (subst T (sym c.if-x.true) tt) false (sym c.is_minus.ensures ∙ c.if-is_minus.false)

pub returns-then-is_minus : goal.returns-then-is_minus
returns-then-is_minus c = let s = c.args in
    let added = c.add_near.ensures in
    let near = subst T (sym c.if-x.true) tt in
    let sign : minus s.w ≡ true = sym c.is_minus.ensures ∙ c.if-is_minus.true in
    record { angles_after = added.angles_after ∙ lanes-angles s.w s.most s.u.now c.requires near true sign s.angles.now; logs_after = added.logs_after ∙ lanes-logs s.w s.most s.u.now c.requires near true sign s.logs.now }

pub returns-else-is_minus : goal.returns-else-is_minus
returns-else-is_minus c = let s = c.args in
    let added = c.add_near-else-is_minus.ensures in
    let near = subst T (sym c.if-x.true) tt in
    let sign : minus s.w ≡ false = sym c.is_minus.ensures ∙ c.if-is_minus.false in
    record { angles_after = added.angles_after ∙ lanes-angles s.w s.most s.u.now c.requires near false sign s.angles.now; logs_after = added.logs_after ∙ lanes-logs s.w s.most s.u.now c.requires near false sign s.logs.now }
