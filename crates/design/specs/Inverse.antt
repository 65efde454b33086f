-- (X'X)^-1 from the Cholesky factor L: L^-1 row by row, then L^-T L^-1.
-- The columns of X are one run x of n rows each. Sums run first to last, from -0.
-- Definitions only. Assumes nothing.
use Rattle.std.specs.Prelude.{ℕ, ◌+◌, ◌-◌, max, cond, List, ltb, set, Float}
use Rattle.std.specs.Float.Ieee.{neg}
use Rattle.floats.specs.Words.{◌⊗◌, ◌⊘◌, one}
use Rattle.floats.specs.Sums.{sum_of}
use Rattle.floats.specs.Turns.{turns}
use Rattle.design.specs.Matrix.{Matrix, entry, zero_matrix, row, matrix}
use Rattle.design.specs.Factor.{factor_of}

-- number j of row i of L^-1, given the rows above it: 1 / l(i, i) on the diagonal, and to its left
-- -(l(i, j) r(j, j) + .. + l(i, i-1) r(i-1, j)) / l(i, i)
abbrev pub lower_entry : Matrix → Matrix → ℕ → ℕ → Float
lower_entry l r i j =
    cond (ltb j i) (neg (sum_of (i - j) (λ m. entry l i (j + m) ⊗ entry r (j + m) j)) ⊘ entry l i i) (one ⊘ entry l i i)

-- the first k rows of L^-1
unfoldable pub lower_inverse : Matrix → ℕ → Matrix
lower_inverse l k = turns k (λ i r. set r i (row (i + 1) (lower_entry l r i))) zero_matrix

-- entry (i, j) of R' R for the lower triangle R: r(m, i) r(m, j) summed from m = max(i, j) on
abbrev pub square_entry : Matrix → ℕ → ℕ → ℕ → Float
square_entry r k i j = sum_of (k - max i j) (λ m. entry r (max i j + m) i ⊗ entry r (max i j + m) j)

-- L^-T L^-1
unfoldable pub inverse_from : Matrix → ℕ → Matrix
inverse_from l k = matrix k (square_entry (lower_inverse l k) k)

-- (X'X)^-1
abbrev pub inverse_of : List Float → ℕ → ℕ → Matrix
inverse_of x n k = inverse_from (factor_of x n k) k
