-- Up to place j every number is above 0 and at most `most`, which is no NaN: a larger one takes its place.
use mathlib.Core.Path.{◌≡◌}
use lib.Ieee.{is_nan}
use mathlib.Core.Bool.{false}
use Rattle.floats.specs.Signs.{minus}
use Rattle.integrand.proofs.LaneLaws.{UptoBy}
use Rattle.integrand.proofs.lanes.largest.Given as goal

abbrev pub invariant-loop-x : goal.invariant-loop-x
invariant-loop-x l = (minus l.most ≡ false) × (is_nan l.most ≡ false) × UptoBy l.u l.x-index l.most
