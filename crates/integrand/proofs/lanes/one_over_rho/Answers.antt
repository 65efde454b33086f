use Prim.Native.Nat.{◌<◌}
use lib.Ieee.{nan, neg}
use lib.ListN.{length}
use native.Mathlib.Omega.{arith}
use mathlib.Core.Path.{◌≡◌, ap, ◌∙◌}
use Rattle.floats.specs.Words.{◌⊗◌, ◌‼◌}
use Rattle.floats.specs.Tables.{table}
use Rattle.floats.proofs.TableLaws.{get_d-table, table_same}
use Rattle.floats.proofs.RowLaws.{filled_none, filled-here, filled_more, filled-all}
use Rattle.elementary.specs.Exp.{exp_of}
use Rattle.integrand.specs.Integrand.{quarter}
use Rattle.integrand.proofs.lanes.one_over_rho.Goals as goal

pub loop-x-init : goal.loop-x-init
loop-x-init c = filled_none _ _

pub loop-x-preserved : goal.loop-x-preserved
loop-x-preserved c = let l = c.loop-x in
    let h : l.x-index < length c.args.logs.now = omega (arith, c.told-logs) in
    rw (l.invariant, filled-here _ _ _ nan h) (filled_more _ _ _ nan h)

pub returns : goal.returns
returns c = let all : c.loop-x.logs ≡ table (λ j. neg (quarter ⊗ c.args.logs.now ‼ j)) 16 = c.loop-x.invariant ∙ filled-all _ _ _ (omega (arith, c.told-logs)) (omega (arith, c.told-logs)) ∙ rw c.told-logs in
    c.exps.ensures ∙ table_same _ _ 16 (λ j h. rw all (ap exp_of (get_d-table _ 16 j nan h)))
