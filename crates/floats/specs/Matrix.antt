-- Matrices of n rows and n columns that stand in a run of numbers. Entry (i, j) is in row i and column j, both counted from 0.
-- A whole matrix stands row after row: `entry`, `square` and `symmetric` say where. Of a symmetric matrix the lower triangle is enough, row after row: `triangle`, `half` and
-- `half_entry` say where. Definitions only. Assumes nothing.
use Rattle.std.specs.Prelude.{ℕ, ◌+◌, ◌*◌, ◌<◌, min, max, ◌≡◌, List, Float}
use Rattle.floats.specs.Words.{◌‼◌}
use Rattle.floats.specs.Tables.{square, triangle, half}

-- entry (i, j) of the matrix that a holds
abbrev pub entry : ℕ → List Float → ℕ → ℕ → Float
entry n a i j = a ‼ (i * n + j)

-- entries (i, j) and (j, i) are one number, to the bit
abbrev pub Symmetric : ℕ → List Float → Type 0
Symmetric n a = (i j : ℕ) → i < n → j < n → entry n a i j ≡ entry n a j i

-- entry (i, j) of the symmetric matrix whose lower triangle h holds
unfoldable pub half_entry : List Float → ℕ → ℕ → Float
unfolding triangle
half_entry h i j = h ‼ (triangle (max i j) + min i j)

-- that matrix, of n rows; and the lower triangle of the matrix that a holds
abbrev pub whole : ℕ → List Float → List Float
whole n h = square (half_entry h) n

abbrev pub half_of : ℕ → List Float → List Float
half_of n a = half (entry n a) n
