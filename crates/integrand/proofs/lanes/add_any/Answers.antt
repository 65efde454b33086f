use Prim.Native.Nat.{◌<◌}
use lib.Ieee.{nan}
use lib.ListN.{length}
use native.Mathlib.Omega.{arith}
use mathlib.Core.Path.{◌∙◌}
use Rattle.floats.proofs.RowLaws.{filled_none, filled-here, filled_more, filled-all}
use Rattle.integrand.proofs.lanes.add_any.Goals as goal

pub loop-j-init : goal.loop-j-init
loop-j-init c = record { angles = filled_none _ _; logs = filled_none _ _ }

pub loop-j-preserved : goal.loop-j-preserved
loop-j-preserved c = let l = c.loop-j in
    let h : l.j < length c.args.angles.now = omega (arith, c.told-angles) in
    let k : l.j < length c.args.logs.now = omega (arith, c.told-logs) in
    record {
      angles = rw (c.atan.ensures, l.invariant.angles, filled-here _ _ _ nan h) (filled_more _ _ _ nan h);
      logs = rw (c.ln_1p.ensures, l.invariant.logs, filled-here _ _ _ nan k) (filled_more _ _ _ nan k);
    }
