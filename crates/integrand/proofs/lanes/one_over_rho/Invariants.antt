-- Up to the place each sum is made minus a quarter of itself; then all are put through exp.
use mathlib.Core.Path.{◌≡◌}
use lib.Ieee.{neg}
use Rattle.floats.specs.Words.{◌⊗◌, ◌‼◌}
use Rattle.floats.proofs.RowLaws.{filled}
use Rattle.integrand.specs.Integrand.{quarter}
use Rattle.integrand.proofs.lanes.one_over_rho.Given as goal

abbrev pub invariant-loop-x : goal.invariant-loop-x
invariant-loop-x l = l.logs ≡ filled (λ j. neg (quarter ⊗ l.initial.logs ‼ j)) l.x-index l.initial.logs
