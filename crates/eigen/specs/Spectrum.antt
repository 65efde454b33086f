-- The eigenvalues of M A that the exact test uses. M A has those of the symmetric M A M, since M is idempotent: M A M is made tridiagonal, the QL step
-- delivers n numbers, and the n - k largest that exceed 1e-10 are kept (R's dwtest). Residuals do not appear.
-- x holds k columns of n numbers, one after another, and inverse is (X'X)^-1. Definitions only. Assumes nothing.
use Rattle.std.specs.Prelude.{ℕ, Bool, List, [], Float, length, Option, Some, None, Result, Ok, Err}
use Rattle.floats.specs.Count.{no_work}
use Rattle.floats.specs.Matrix.{half_of}
use Rattle.floats.specs.Search.{first_bad}
use Rattle.floats.specs.declared.tally.Tally.{Tally}
use Rattle.projection.specs.Projection.{mam_of}
use Rattle.tridiagonal.specs.Reflection.{tridiagonal_of}
use Rattle.tridiagonal.specs.Bands.{diagonal_of, couplings_of}
use Rattle.ql.specs.Ql.{Worked, ql_of, stuck_of}
use Rattle.eigen.specs.Kept.{kept_of}
use Rattle.eigen.specs.declared.Numbers.{Numbers}
use Rattle.eigen.specs.declared.SpectrumError.{SpectrumError}
use Rattle.eigen.specs.declared.SpectrumError.TheVariants.{MatrixNotFinite, NumberNotFinite}

-- the QL step on the bands of a tridiagonal matrix of n rows
unfoldable pub bands_worked : ℕ → List Float → Worked
bands_worked n a = ql_of n n (diagonal_of n a) (couplings_of n a) no_work

-- one of its indexes still had a coupling left after its turn
unfoldable pub bands_stuck : ℕ → List Float → Bool
bands_stuck n a = stuck_of n n (diagonal_of n a) (couplings_of n a) no_work

-- the QL step on a symmetric matrix made tridiagonal, and the n numbers that it delivers
abbrev pub worked_of : ℕ → List Float → Worked
worked_of n b = bands_worked n (tridiagonal_of n b)

abbrev pub numbers_of : ℕ → List Float → List Float
numbers_of n b = (worked_of n b).diagonal

-- one of them is not finite; else how many are kept, the sweeps, and whether a coupling was left
abbrev pub kept_by : Option ℕ → ℕ → ℕ → List Float → Tally → Bool → Result Numbers SpectrumError
kept_by (Some t) n k numbers work stuck = Err NumberNotFinite
kept_by None n k numbers work stuck = Ok (record { count = length (kept_of numbers n k); work = work; stuck = stuck })

abbrev pub kept_from : Option ℕ → ℕ → ℕ → List Float → List Float
kept_from (Some t) n k numbers = []
kept_from None n k numbers = kept_of numbers n k

unfoldable pub delivered_of : ℕ → ℕ → List Float → Result Numbers SpectrumError
delivered_of n k b = kept_by (first_bad (numbers_of n b)) n k (numbers_of n b) (worked_of n b).work (bands_stuck n (tridiagonal_of n b))

unfoldable pub delivered_numbers : ℕ → ℕ → List Float → List Float
delivered_numbers n k b = kept_from (first_bad (numbers_of n b)) n k (numbers_of n b)

-- an entry of M A M is not finite; else what the QL step delivers
abbrev pub spectrum_by : Option ℕ → ℕ → ℕ → List Float → Result Numbers SpectrumError
spectrum_by (Some t) n k b = Err MatrixNotFinite
spectrum_by None n k b = delivered_of n k b

abbrev pub numbers_by : Option ℕ → ℕ → ℕ → List Float → List Float
numbers_by (Some t) n k b = []
numbers_by None n k b = delivered_numbers n k b

unfoldable pub spectrum_of : List Float → List (List Float) → ℕ → ℕ → Result Numbers SpectrumError
spectrum_of x inverse n k = spectrum_by (first_bad (mam_of x inverse n k)) n k (mam_of x inverse n k)

-- the kept eigenvalues, falling; none where the sheet is refused
unfoldable pub kept_numbers : List Float → List (List Float) → ℕ → ℕ → List Float
kept_numbers x inverse n k = numbers_by (first_bad (mam_of x inverse n k)) n k (mam_of x inverse n k)

-- what the first n (n + 1) / 2 numbers of the matrix room hold at the end: the lower triangle of M A M, made tridiagonal where it was finite
abbrev pub front_by : Option ℕ → ℕ → List Float → List Float
front_by (Some t) n b = b
front_by None n b = tridiagonal_of n b

unfoldable pub front_of : List Float → List (List Float) → ℕ → ℕ → List Float
front_of x inverse n k = half_of n (front_by (first_bad (mam_of x inverse n k)) n (mam_of x inverse n k))
