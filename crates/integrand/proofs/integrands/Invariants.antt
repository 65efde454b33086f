-- After some weights each sum is that of their terms at its u (LaneLaws' sums_at); of all of them the integrand at each s is made (lanes-closed).
use mathlib.Core.Path.{◌≡◌}
use Rattle.integrand.proofs.LaneLaws.{sums_at, angle_term, log_term}
use Rattle.integrand.proofs.integrands.Given as goal

abbrev pub invariant-loop-w : goal.invariant-loop-w
invariant-loop-w l = record {
  angles : l.angles ≡ sums_at angle_term l.weights l.s l.w-index;
  logs : l.logs ≡ sums_at log_term l.weights l.s l.w-index;
}
