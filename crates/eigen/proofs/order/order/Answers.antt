use Rattle.eigen.specs.Kept.{falling}
use Rattle.eigen.proofs.OrderLaws.{order-next}
use native.Mathlib.Omega.{arith}
use mathlib.Core.Path.{refl, ◌∙◌}
use Rattle.eigen.proofs.order.order.Goals as goal

pub loop-i-init : goal.loop-i-init
unfolding falling
loop-i-init c = (omega arith, refl, refl)

pub loop-i-preserved : goal.loop-i-preserved
loop-i-preserved c = let args = c.args in
    let loop = c.loop-i in
    (omega arith, omega arith, c.put_in.ensures ∙ order-next loop.d args.d.now loop.i (omega arith) loop.invariant.2)
