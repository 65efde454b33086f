-- The result: a refusal with zeros, or the statistic, p and how they came about. Definitions only. Assumes nothing.
use Rattle.std.specs.Prelude.{ℕ, Bool, true, false, not, ◌&&◌, ltb, Float, Result, Ok, Err}
use Rattle.floats.specs.Words.{plus_zero}
use Rattle.floats.specs.Count.{no_work}
use Rattle.floats.specs.declared.tally.Tally.{Tally}
use Rattle.elementary.specs.declared.NormalLaw.{NormalLaw}
use Rattle.eigen.specs.declared.Numbers.{Numbers}
use Rattle.imhof.specs.declared.Estimate.{Estimate}
use Rattle.outcome.specs.Refusals.{passed, refusal_of}
use Rattle.outcome.specs.declared.Alternative.TheVariants.{Greater}
use Rattle.outcome.specs.declared.Choice.{Choice}
use Rattle.outcome.specs.declared.Choice.TheVariants.{Default, Exact, Normal}
use Rattle.outcome.specs.declared.Asked.{Asked}
use Rattle.outcome.specs.declared.Path.{Path}
use Rattle.outcome.specs.declared.Path.TheVariants as path
use Rattle.outcome.specs.declared.Refusal.{Refusal}
use Rattle.outcome.specs.declared.refusals.TestError.{TestError}
use Rattle.outcome.specs.declared.Leaving.{Leaving}
use Rattle.outcome.specs.declared.Outcome.{Outcome}

-- the paths by the number that a line prints: 0 none; 1 fewer than three rows, where p is 1; 2 Imhof's probability; 3 the normal law; 4 too few rows for a law, where p is 1
abbrev pub path_number : Path → ℕ
path_number path.None = 0
path_number path.FewRows = 1
path_number path.Imhof = 2
path_number path.Law = 3
path_number path.FewForLaw = 4

-- with fewer rows than this nothing is worked out
abbrev pub least_rows : ℕ
least_rows = 3

-- the default is exact below so many rows, else normal
abbrev pub exact_below : ℕ
exact_below = 100

abbrev pub wants_exact : Choice → ℕ → Bool
wants_exact Default n = ltb n exact_below
wants_exact Exact n = true
wants_exact Normal n = false

-- no law was used
abbrev pub no_law : NormalLaw
no_law = record { mean = plus_zero; variance = plus_zero }

-- THE MARK. Where the exact way was not gone, no sweep and no integral was to end
abbrev pub direct : Leaving
direct = record { fallback = false; kept = 0; work = no_work; settled = true }

-- where it kept eigenvalues and no weight is left: they decided that, with no integral, so it is settled unless an index of the QL step still had a coupling left after its turn
abbrev pub fallen_back : Numbers → Leaving
fallen_back s = record { fallback = true; kept = s.count; work = s.work; settled = not s.stuck }

-- the sweeps of one tally with the bisections and evaluations of another
abbrev pub together : Tally → Tally → Tally
together s t = record { sweeps = s.sweeps; bisections = t.bisections; evaluations = t.evaluations }

-- where it has a value: settled where, besides, the final error sum is small
abbrev pub worked_out : Numbers → Estimate → Leaving
worked_out s q = record { fallback = false; kept = s.count; work = together s.work q.tally; settled = not s.stuck && q.small }

-- a refusal: its number, its place and zeros
abbrev pub refused_of : Refusal → Outcome
refused_of r =
    record { refusal = r; statistic = plus_zero; p = plus_zero; alternative = Greater; n = 0; path = path_number path.None; fallback = false; kept = 0; work = no_work; settled = false; law = no_law }

-- of a test that ends with a result, or with the reason of its refusal
abbrev pub outcome_in : Result Outcome TestError → Outcome
outcome_in (Ok o) = o
outcome_in (Err why) = refused_of (refusal_of why)

-- an answer by a path
abbrev pub accepted_of : Asked → Float → ℕ → Leaving → NormalLaw → Outcome
accepted_of asked p path left law =
    record { refusal = passed; statistic = asked.statistic; p = p; alternative = asked.alternative; n = asked.rows; path = path; fallback = left.fallback; kept = left.kept; work = left.work; settled = left.settled; law = law }
