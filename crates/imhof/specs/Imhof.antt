-- Imhof's probability that the sum of w z² over the weights w is below 0, the z independent and standard normal: 1/2 - integral / pi (Imhof 1961).
-- Runs are lists of binary64 values, each operation is rounded once (floats' Words). Definitions only. Assumes nothing.
use Rattle.std.specs.Prelude.{Bool, true, false, ◌&&◌, cond, List, [], Float, Result, Ok, Err}
use Rattle.std.specs.Float.Ieee.{lt, le}
use Rattle.std.specs.Float.Ieee.Scale.{finite}
use Rattle.floats.specs.Words.{◌⊖◌, ◌⊘◌, float, plus_zero, one}
use Rattle.floats.specs.Sums.{sum_run}
use Rattle.floats.specs.Count.{no_work}
use Rattle.floats.specs.declared.tally.Tally.{Tally}
use Rattle.elementary.specs.Patterns.{half}
use Rattle.weights.specs.Weights.{weights_of, Signs, none, above, below, mixed, signs_of}
use Rattle.weights.specs.Range.{low_end, high_end}
use Rattle.imhof.specs.declared.Part.{Part}
use Rattle.imhof.specs.declared.Standing.{Standing}
use Rattle.imhof.specs.declared.Standing.TheVariants.{Open, Settled, Refused}
use Rattle.imhof.specs.declared.Integral.{Integral}
use Rattle.imhof.specs.declared.Estimate.{Estimate}
use Rattle.imhof.specs.declared.ExactError.{ExactError}
use Rattle.imhof.specs.declared.ExactError.TheVariants.{NoWeight, NotFinite}
use Rattle.imhof.specs.Integrand.{integrand_of}
use Rattle.imhof.specs.Quadrature.{Quadrature, broken}
use Rattle.imhof.specs.Parts.{most_bisections, Stage, stage, stage_after, values_of, errors_of, tolerance}

-- what the parts of a stage add up to, first to last
abbrev pub integral_of : Stage → Integral
integral_of s = record { value = sum_run (values_of s.parts); error = sum_run (errors_of s.parts); tally = s.tally }

-- its error is at most 5e-12
abbrev pub small_sum : Integral → Bool
small_sum i = le i.error tolerance

abbrev pub quadrature_by : Standing → Stage → Quadrature
quadrature_by Open s = Ok (integral_of s)
quadrature_by Settled s = Ok (integral_of s)
quadrature_by Refused s = broken

-- the integral that a last stage stands for; none where a number was not finite
abbrev pub quadrature_of : Stage → Quadrature
quadrature_of s = quadrature_by s.standing s

-- the stage after the most bisections of the weights' range, where both of its ends are finite
abbrev pub last_stage_by : Bool → List Float → Stage
last_stage_by true ws = stage_after most_bisections (integrand_of ws) (low_end ws) (high_end ws)
last_stage_by false ws = stage [] no_work Refused

abbrev pub last_stage : List Float → Stage
last_stage ws = last_stage_by (finite (low_end ws) && finite (high_end ws)) ws

-- Rust's clamp to [0, 1]
unfoldable pub clamp_of : Float → Float
clamp_of x = let y = cond (lt x plus_zero) plus_zero x in cond (lt one y) one y

abbrev pub pi : Float
pi = float 0x400921fb54442d18

-- a probability as it came out, the same clamped, the work it took, and whether its error is small
abbrev pub estimate_of : Float → Tally → Bool → Estimate
estimate_of p t small = record { raw = p; probability = clamp_of p; tally = t; small = small }

-- 1/2 - integral / pi
abbrev pub estimate_by : Integral → Estimate
estimate_by i = estimate_of (half ⊖ i.value ⊘ pi) i.tally (small_sum i)

abbrev pub exact_by : Quadrature → Result Estimate ExactError
exact_by (Ok i) = Ok (estimate_by i)
exact_by (Err e) = Err NotFinite

-- the answer, and the parts that it leaves in the part room
pub record Outcome : Type 0 where
  pub answer : Result Estimate ExactError
  pub parts : List Part

abbrev pub outcome_by : Signs → List Float → Outcome
outcome_by none ws = record { answer = Err NoWeight; parts = [] }
outcome_by above ws = record { answer = Ok (estimate_of plus_zero no_work true); parts = [] }
outcome_by below ws = record { answer = Ok (estimate_of one no_work true); parts = [] }
outcome_by mixed ws = record { answer = exact_by (quadrature_of (last_stage ws)); parts = (last_stage ws).parts }

unfoldable pub imhof_of : List Float → Float → Outcome
imhof_of eigenvalues d = outcome_by (signs_of (weights_of eigenvalues d)) (weights_of eigenvalues d)
