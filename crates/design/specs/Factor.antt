-- The Cholesky factor L of X'X, row by row, and its pivots.
-- The columns of X are one run x of n rows each: row t of column j is x ‼ (j * n + t). Sums run first to last, from -0.
-- Definitions only. Assumes nothing.
use Rattle.std.specs.Prelude.{ℕ, ◌*◌, Bool, List, set, Float, Option, Some, None, Result, Ok, Err}
use Rattle.std.specs.Float.Ieee.{le}
use Rattle.floats.specs.Words.{◌⊖◌, ◌⊗◌, ◌⊘◌, ◌‼◌, float}
use Rattle.floats.specs.Sums.{sum_of, sum_products}
use Rattle.floats.specs.Signs.{max_of}
use Rattle.floats.specs.Search.{first_where}
use Rattle.floats.specs.Turns.{turns}
use Rattle.roots.specs.Root.{sqrt_of}
use Rattle.design.specs.Matrix.{Matrix, row_at, entry, zero_row, zero_matrix}
use Rattle.design.specs.declared.FailedPivot.{FailedPivot}

-- entry (i, j) of X'X: the products of columns i and j, summed
abbrev pub gram : List Float → ℕ → ℕ → ℕ → Float
gram x n i j = sum_products x (i * n) x (j * n) n

-- what that entry leaves once the first j products of rows i and j of the factor are taken off
abbrev pub rest_of : List Float → ℕ → ℕ → ℕ → List Float → List Float → Float
rest_of x n i j l-i l-j = gram x n i j ⊖ sum_of j (λ m. l-i ‼ m ⊗ l-j ‼ m)

-- the first j numbers of row i of the factor, given the rows above it: each from those before it
unfoldable pub left_to : List Float → ℕ → Matrix → ℕ → ℕ → List Float
left_to x n l i j = turns j (λ c l-i. set l-i c (rest_of x n i c l-i (row_at l c) ⊘ entry l c c)) zero_row

-- row i left of the diagonal
abbrev pub left_of : List Float → ℕ → Matrix → ℕ → List Float
left_of x n l i = left_to x n l i i

-- pivot i: what is left for the square of the diagonal
abbrev pub pivot_of : List Float → ℕ → ℕ → List Float → Float
pivot_of x n i l-i = rest_of x n i i l-i l-i

-- 1e-12 and 2^-1022, the least normal number
abbrev pub tolerance : Float
tolerance = float 0x3d719799812dea11

abbrev pub least_normal : Float
least_normal = float 0x0010000000000000

-- pivot i fails: it is at most 1e-12 of the sum of squares of column i, which counts as 2^-1022 at least
abbrev pub fails : List Float → ℕ → ℕ → List Float → Bool
fails x n i l-i = le (pivot_of x n i l-i) (tolerance ⊗ max_of (gram x n i i) least_normal)

-- row i with its diagonal, the root of the pivot
abbrev pub with_root : List Float → ℕ → ℕ → List Float → List Float
with_root x n i l-i = set l-i i (sqrt_of (pivot_of x n i l-i))

-- the first k rows of the factor
unfoldable pub factor_of : List Float → ℕ → ℕ → Matrix
factor_of x n k = turns k (λ i l. set l i (with_root x n i (left_of x n l i))) zero_matrix

-- whether pivot i fails, where the rows above are the factor's
unfoldable pub fails_at : List Float → ℕ → ℕ → Bool
fails_at x n i = fails x n i (left_of x n (factor_of x n i) i)

-- the answer for what a search for failing pivots found
abbrev pub pivots_by : Option ℕ → Result (Unit {0}) FailedPivot
pivots_by (Some i) = Err (record { 0 = i })
pivots_by None = Ok tt

-- whether all k pivots hold, or the first that fails
unfoldable pub pivots_of : List Float → ℕ → ℕ → Result (Unit {0}) FailedPivot
pivots_of x n k = pivots_by (first_where k (fails_at x n))

-- how many rows of the factor are made: all k, or those above the pivot that fails
abbrev pub rows_made : ℕ → Result (Unit {0}) FailedPivot → ℕ
rows_made k (Ok done) = k
rows_made k (Err failed) = failed.0
