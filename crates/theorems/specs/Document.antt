-- Document 01's table of refusals, row by row in the order tried: when a row is given, and its number and place. A row is asked only where none above it holds.
-- And when an accepted call is settled (document 02, W-201).
-- e is the run of n residuals, x the run of k columns; of the rooms only the lengths decide. Definitions only. Assumes nothing.
use Rattle.std.specs.Prelude.{ℕ, ◌+◌, ◌*◌, ◌≡◌, ◌⊎◌, Bool, true, false, not, ◌&&◌, ◌||◌, cond, List, [], ◌∷◌, ltb, leb, eqb, length, Float, Option, Some, None, Result, Ok, Err}
use Rattle.std.specs.Float.Ieee.{eq, lt, le}
use Rattle.std.specs.Float.Ieee.Scale.{finite}
use Rattle.floats.specs.Words.{plus_zero}
use Rattle.floats.specs.Sums.{sum_run}
use Rattle.floats.specs.Count.{no_work}
use Rattle.floats.specs.Search.{first_where, first_bad}
use Rattle.elementary.specs.declared.NormalLaw.{NormalLaw}
use Rattle.autocorrelation.specs.Statistic.{squares, differences, durbin_watson}
use Rattle.design.specs.Matrix.{finite_matrix}
use Rattle.design.specs.Factor.{fails_at}
use Rattle.design.specs.Inverse.{inverse_of}
use Rattle.design.specs.Law.{law_of}
use Rattle.projection.specs.Projection.{mam_of}
use Rattle.tridiagonal.specs.Reflection.{tridiagonal_of}
use Rattle.tridiagonal.specs.Bands.{diagonal_of, couplings_of}
use Rattle.ql.specs.Ql.{stuck_of}
use Rattle.eigen.specs.Spectrum.{numbers_of, kept_numbers}
use Rattle.weights.specs.Weights.{weights_of, Signs, none, above, below, mixed, signs_of}
use Rattle.imhof.specs.Parts.{errors_of, tolerance}
use Rattle.imhof.specs.Imhof.{last_stage, imhof_of}
use Rattle.imhof.specs.declared.Estimate.{Estimate}
use Rattle.imhof.specs.declared.ExactError.{ExactError}
use Rattle.imhof.specs.declared.ExactError.TheVariants.{NoWeight, NotFinite}
use Rattle.outcome.specs.Refusals.{passed, refusal}
use Rattle.outcome.specs.Result.{wants_exact}
use Rattle.outcome.specs.declared.Refusal.{Refusal}
use Rattle.outcome.specs.declared.Choice.{Choice}

-- a row: when it is given, and what it gives
pub record Row : Type 0 where
  pub when : Bool
  pub gives : Refusal

abbrev pub row : Bool → ℕ → ℕ → Row
row b i j = record { when = b; gives = refusal i j }

-- what the first row that holds gives; nothing is refused where none does
unfoldable pub first_given : List Row → Refusal
first_given [] = passed
first_given (r ∷ rest) = cond r.when r.gives (first_given rest)

-- whether a search found something, and where
abbrev pub found : Option ℕ → Bool
found (Some t) = true
found None = false

abbrev pub found_at : Option ℕ → ℕ
found_at (Some t) = t
found_at None = 0

-- whether a run has no number
abbrev pub empty : List Float → Bool
empty [] = true
empty (w ∷ ws) = false

-- an end of the range, a part's value or error estimate was not finite
abbrev pub broken : Result Estimate ExactError → Bool
broken (Err NoWeight) = false
broken (Err NotFinite) = true
broken (Ok q) = false

-- the weights have both signs, so that an integral is needed
abbrev pub both_signs : Signs → Bool
both_signs none = false
both_signs above = false
both_signs below = false
both_signs mixed = true

-- an index of the QL step on M A M, b of n rows, still had a coupling left after its turn
abbrev pub left_coupled : ℕ → List Float → Bool
left_coupled n b = stuck_of n n (diagonal_of n (tridiagonal_of n b)) (couplings_of n (tridiagonal_of n b)) no_work

module _ (e x : List Float) (k : ℕ) (choice : Choice) (matrix_room part_room : ℕ) where
  -- the rows, M A M, the kept eigenvalues, and the law
  abbrev pub rows_of : ℕ
  rows_of = length e

  abbrev pub product_of : List Float
  product_of = mam_of x (inverse_of x rows_of k) rows_of k

  abbrev pub kept_of : List Float
  kept_of = kept_numbers x (inverse_of x rows_of k) rows_of k

  abbrev pub law_due_of : NormalLaw
  law_due_of = law_of x rows_of k

  -- the exact path is due; its weights; of them none is left
  abbrev pub exact_due : Bool
  exact_due = not (ltb rows_of 3) && wants_exact choice rows_of

  abbrev pub weights_left : List Float
  weights_left = weights_of kept_of (durbin_watson e)

  abbrev pub no_weight_left : Bool
  no_weight_left = empty weights_left

  -- the exact path was due and left no weight
  abbrev pub fell_back : Bool
  fell_back = exact_due && no_weight_left

  -- path 3 is due
  abbrev pub law_due : Bool
  law_due = (not exact_due || no_weight_left) && not (ltb rows_of 5)

  -- THE TABLE: what the path decides, and before it what the sheet does
  abbrev pub last_rows : List Row
  last_rows =
      row (exact_due && ltb matrix_room (rows_of * (rows_of + 1))) 12 1
      ∷ row (exact_due && ltb part_room 8004) 12 2
      ∷ row (exact_due && found (first_bad product_of)) 13 2
      ∷ row (exact_due && found (first_bad (numbers_of rows_of product_of))) 13 3
      ∷ row (exact_due && broken (imhof_of kept_of (durbin_watson e)).answer) 13 4
      ∷ row (law_due && not (finite law_due_of.mean && finite law_due_of.variance)) 13 5
      ∷ row (law_due && not (lt plus_zero law_due_of.variance)) 14 0
      ∷ []

  abbrev pub rows : List Row
  rows =
      row (eqb k 0) 1 0
      ∷ row (ltb 256 rows_of) 2 0
      ∷ row (ltb 8 k) 2 1
      ∷ row (not (eqb (length x) (k * rows_of))) 3 0
      ∷ row (found (first_bad x)) 4 (found_at (first_bad x))
      ∷ row (eqb rows_of 0) 5 0
      ∷ row (eqb rows_of 1) 6 0
      ∷ row (found (first_bad e)) 7 (found_at (first_bad e))
      ∷ row (eq (squares e) plus_zero) 8 0
      ∷ row (not (finite (squares e) && finite (differences e))) 9 0
      ∷ row (leb rows_of k) 10 0
      ∷ row (found (first_where k (fails_at x rows_of))) 11 (found_at (first_where k (fails_at x rows_of)))
      ∷ row (not (finite_matrix k (inverse_of x rows_of k))) 13 1
      ∷ last_rows

  -- the sweeps left a coupling
  abbrev pub coupling_was_left : Bool
  coupling_was_left = left_coupled rows_of product_of

  -- the final sum of the parts' errors, first to last
  abbrev pub error_sum : Float
  error_sum = sum_run (errors_of (last_stage weights_left).parts)

  -- the integral ended, where one was needed
  abbrev pub integral_ended : Bool
  integral_ended = not (both_signs (signs_of weights_left)) || le error_sum tolerance

  -- THE MARK: the sweeps ended, and the integral where one was needed; both belong to the exact path
  abbrev pub settled_due : Bool
  settled_due = not exact_due || (not coupling_was_left && integral_ended)

-- g is given by a table: a row holds, gives g, and none above it holds
unfoldable pub Given : List Row → Refusal → Type 0
Given [] g = ⊥
Given (r ∷ rest) g = ((r.when ≡ true) × (r.gives ≡ g)) ⊎ ((r.when ≡ false) × Given rest g)
