use lib.Ieee.{ne}
use borrow.Author.Tests.{not-true, not-false}
use Rattle.weights.proofs.WeightLaws.{gathered-zero, gathered-weight, gathered-all}
use native.Mathlib.Omega.{arith}
use mathlib.Core.Path.{◌≡◌, refl}
use lib.ListN.{length}
use Rattle.weights.proofs.shift.Goals.{then-w, else-w}
use Rattle.weights.proofs.shift.Goals as goal

pub loop-x-preserved : goal.loop-x-preserved
unfolding ne
loop-x-preserved c =
    let e = c.args.eigenvalues.now in
    let l = c.loop-x in
    elim c.if-w.branch [
      | then-w v ↦ rw (v.weights-is, v.m-is) (gathered-weight e c.args.d c.args.weights.now l.weights l.m l.x-index (omega arith) (omega arith) (not-true _ v.if-w.true) l.invariant)
      | else-w v ↦ rw (v.weights-is, v.m-is) (gathered-zero e c.args.d c.args.weights.now l.weights l.m l.x-index (omega arith) (not-false _ v.if-w.false) l.invariant)
    ]

pub returns : goal.returns
returns c =
    let h : c.loop-x.x-index ≡ length c.args.eigenvalues.now = omega arith in
    let all = gathered-all c.args.eigenvalues.now c.args.d c.args.weights.now c.loop-x.weights c.loop-x.m (omega arith) (rw h at c.loop-x.invariant) in
    record { count = all.0; weights_after = all.1 }
