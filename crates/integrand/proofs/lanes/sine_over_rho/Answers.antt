use Prim.Native.Nat.{◌<◌}
use lib.Ieee.{nan}
use lib.ListN.{length}
use native.Mathlib.Omega.{arith}
use mathlib.Core.Path.{◌∙◌}
use Rattle.floats.proofs.RowLaws.{filled_none, filled_more, filled-all}
use Rattle.integrand.proofs.lanes.sine_over_rho.Goals as goal

pub loop-j-init : goal.loop-j-init
loop-j-init c = filled_none _ _

pub loop-j-preserved : goal.loop-j-preserved
loop-j-preserved c = let l = c.loop-j in
    let h : l.j < length c.args.s.now = omega (arith, c.told-s) in
    rw (c.sin.ensures, l.invariant) (filled_more _ _ _ nan h)
