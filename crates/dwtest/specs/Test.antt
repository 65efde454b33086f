-- The Durbin-Watson test of document 01: what it answers, and what it leaves in the two lent rooms.
-- e is the run of n residuals, x the run of k columns; of the rooms only the lengths decide. Definitions only. Assumes nothing.
use Rattle.std.specs.Prelude.{ℕ, Bool, true, false, ◌&&◌, cond, List, [], ◌∷◌, ltb, length, Float, Result, Ok, Err}
use Rattle.floats.specs.Words.{one}
use Rattle.autocorrelation.specs.Statistic.{durbin_watson_answer, value}
use Rattle.columns.specs.Sheet.{columns_of}
use Rattle.outcome.specs.Rooms.{room_of}
use Rattle.outcome.specs.Refusals.{passes, first_of, refusal_of, columns_refusal, statistic_refusal, rows_refusal, rooms_of}
use Rattle.outcome.specs.Result.{path_number, least_rows, wants_exact, no_law, direct, refused_of, accepted_of}
use Rattle.outcome.specs.declared.Alternative.{Alternative}
use Rattle.outcome.specs.declared.Choice.{Choice}
use Rattle.outcome.specs.declared.Asked.{Asked}
use Rattle.outcome.specs.declared.Refusal.{Refusal}
use Rattle.outcome.specs.declared.Outcome.{Outcome}
use Rattle.outcome.specs.declared.Path.TheVariants as path
use Rattle.outcome.specs.declared.refusals.TestError.{TestError}
use Rattle.dwtest.specs.Layout.{design_checks, Layout, layout_of}
use Rattle.dwtest.specs.Verdict.{to_law, by_spectrum, finish}
use Rattle.dwtest.specs.declared.Way.{Way}
use Rattle.dwtest.specs.declared.Way.TheVariants.{Few, Exact, Normal}
use Rattle.dwtest.specs.declared.verdict.Said.{Said}
use Rattle.dwtest.specs.declared.verdict.Said.TheVariants.{Answered}

-- the first refusal of a list of checks, else what comes after
abbrev pub unless_refused : List Refusal → Outcome → Outcome
unless_refused checks after = cond (passes (first_of checks)) after (refused_of (first_of checks))

-- a statistic, an alternative and a number of rows
abbrev pub asking : Float → Alternative → ℕ → Asked
asking d alternative n = record { statistic = d; alternative = alternative; rows = n }

-- what the runs are checked for, in order
abbrev pub run_checks : List Float → List Float → ℕ → List Refusal
run_checks e x k = columns_refusal (columns_of x (length e) k) ∷ statistic_refusal (durbin_watson_answer e) ∷ rows_refusal (length e) k ∷ []

-- the rooms are used
abbrev pub is_exact : Result Way TestError → Bool
is_exact (Ok Few) = false
is_exact (Ok Exact) = true
is_exact (Ok Normal) = false
is_exact (Err why) = false

-- what is said before any law is worked out, the way a sheet goes: path 1, where p is 1; 12; from the eigenvalues; or that the law is due
abbrev pub said_by : Result Way TestError → Layout → Asked → Said
said_by (Ok Few) l asked = Answered (accepted_of asked one (path_number path.FewRows) direct no_law)
said_by (Err why) l asked = Answered (refused_of (refusal_of why))
said_by (Ok Exact) l asked = by_spectrum l.spectrum l.kept asked
said_by (Ok Normal) l asked = to_law asked direct

-- exact, where the rooms suffice
abbrev pub exact_by : Result (Unit {0}) TestError → Result Way TestError
exact_by (Ok suffice) = Ok Exact
exact_by (Err why) = Err why

-- `wanted` is how many numbers of matrix room n rows want
module _ (wanted : ℕ → ℕ) where
  -- THE WAY by rows, choice and rooms: few rows, else exact or normal as chosen; exact only where there is room
  abbrev pub way_of : ℕ → Choice → ℕ → ℕ → Result Way TestError
  way_of n choice matrix parts = cond (ltb n least_rows) (Ok Few) (cond (wants_exact choice n) (exact_by (rooms_of (wanted n) matrix parts)) (Ok Normal))

  -- of n rows: what the statistic decides from what the columns do, with the law where it is due
  abbrev pub answer_of : ℕ → Layout → Asked → Choice → ℕ → ℕ → Outcome
  answer_of n l asked choice matrix parts = finish l.law asked (said_by (way_of n choice matrix parts) l asked)

  -- the columns' refusals, 11 and 13, stage 1; then the answer
  unfoldable pub design_of : List Float → ℕ → ℕ → Asked → Choice → ℕ → ℕ → Outcome
  unfolding first_of
  design_of x n k asked choice matrix parts = unless_refused (design_checks x n k) (answer_of n (layout_of x n k) asked choice matrix parts)

  -- whether the rooms are used: past those refusals, on the exact way
  abbrev pub design_touches : List Float → ℕ → ℕ → Choice → ℕ → ℕ → Bool
  design_touches x n k choice matrix parts = passes (first_of (design_checks x n k)) && is_exact (way_of n choice matrix parts)

  -- the test of the residuals e and the k columns in x: refusals 1 to 10, then what the columns and the statistic decide
  unfoldable pub test_with : List Float → List Float → ℕ → Alternative → Choice → ℕ → ℕ → Outcome
  unfolding first_of design_of
  test_with e x k alternative choice matrix parts =
      unless_refused (run_checks e x k) (design_of x (length e) k (asking (value (durbin_watson_answer e)) alternative (length e)) choice matrix parts)

  unfoldable pub touched_with : List Float → List Float → ℕ → Choice → ℕ → ℕ → Bool
  unfolding first_of
  touched_with e x k choice matrix parts = passes (first_of (run_checks e x k)) && design_touches x (length e) k choice matrix parts

-- THE TEST: with matrix room for two lower triangles
abbrev pub test_of : List Float → List Float → ℕ → Alternative → Choice → ℕ → ℕ → Outcome
test_of e x k alternative choice matrix parts = test_with room_of e x k alternative choice matrix parts

abbrev pub touched : List Float → List Float → ℕ → Choice → ℕ → ℕ → Bool
touched e x k choice matrix parts = touched_with room_of e x k choice matrix parts
