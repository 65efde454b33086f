use native.Mathlib.Omega.{arith}
use mathlib.Core.Path.{◌≡◌, refl, ◌∙◌}
use lib.ListN.{length}
use lib.Ieee.{neg, of_bits}
use Rattle.floats.specs.Sums.{sum_of}
use Rattle.floats.specs.Tables.{table}
use Rattle.integrand.proofs.LaneLaws.{angle_term, log_term, sums-more, lanes-closed}
use Rattle.integrand.proofs.integrands.Goals as goal

pub loop-w-init : goal.loop-w-init
unfolding table sum_of neg of_bits
loop-w-init c = record { angles = refl; logs = refl }

pub loop-w-preserved : goal.loop-w-preserved
loop-w-preserved c = let l = c.loop-w in
    let ws = c.args.weights.now in
    let added = c.add_weight.ensures in
    record {
      angles = added.angles_after ∙ rw l.invariant.angles (sums-more angle_term ws c.exps.new.xs l.w-index);
      logs = added.logs_after ∙ rw l.invariant.logs (sums-more log_term ws c.exps.new.xs l.w-index);
    }

pub returns : goal.returns
returns c =
    let ws = c.args.weights.now in
    let whole : c.loop-w.w-index ≡ length ws = omega arith in
    c.sine_over_rho.ensures
    ∙ rw (c.one_over_rho.ensures, c.loop-w.invariant.angles, c.loop-w.invariant.logs, whole, c.exps.ensures) (lanes-closed ws c.args.s.now c.told-s)
