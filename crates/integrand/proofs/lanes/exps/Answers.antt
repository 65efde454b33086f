use Prim.Native.Nat.{◌<◌}
use lib.Ieee.{nan}
use lib.ListN.{length}
use native.Mathlib.Omega.{arith}
use mathlib.Core.Path.{◌∙◌}
use Rattle.floats.proofs.RowLaws.{filled_none, filled-here, filled_more, filled-all}
use Rattle.integrand.proofs.lanes.exps.Goals as goal

pub loop-x-init : goal.loop-x-init
loop-x-init c = filled_none _ _

pub loop-x-preserved : goal.loop-x-preserved
loop-x-preserved c = let l = c.loop-x in
    let h : l.x-index < length c.args.xs.now = omega (arith, c.told-xs) in
    rw (c.exp.ensures, l.invariant, filled-here _ _ _ nan h) (filled_more _ _ _ nan h)
