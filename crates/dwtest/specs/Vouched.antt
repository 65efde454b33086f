-- What a result tells of its run of residuals, besides its own fields. Definitions only. Assumes nothing.
use Rattle.std.specs.Prelude.{Bool, true, false, List, Float}
use Rattle.autocorrelation.specs.Bound.{Sure}
use Rattle.outcome.specs.Refusals.{passes}
use Rattle.outcome.specs.declared.Outcome.{Outcome}

-- what is sure of a statistic d of the run e, where it is accepted
abbrev pub SureIf : Bool → Float → List Float → Type 0
SureIf true d e = Sure d e
SureIf false d e = Unit

-- an accepted result's statistic is sure: binary64 holds the residuals e, and demand 3's bound holds where the sizes do
abbrev pub Vouched : Outcome → List Float → Type 0
Vouched r e = SureIf (passes r.refusal) r.statistic e
