-- Matrices of as many rows and columns as the largest sheet has columns, of which the first k rows and columns are in use, and +0 stands beyond.
-- A matrix is the list of its rows; rows and columns are counted from 0. Sums run first to last, from -0.
-- Definitions only. Assumes nothing.
use Rattle.std.specs.Prelude.{ℕ, zero, suc, Bool, true, ◌&&◌, cond, List, [], ltb, get_or, replicate, Float}
use Rattle.std.specs.Float.Ieee.Scale.{finite}
use Rattle.floats.specs.Limits.{max_columns}
use Rattle.floats.specs.Words.{◌⊗◌, ◌‼◌, plus_zero}
use Rattle.floats.specs.Sums.{sum_of}
use Rattle.floats.specs.Tables.{table}

-- the rows, one after another
abbrev pub Matrix : Type 0
Matrix = List (List Float)

-- row i, and entry (i, j)
abbrev pub row_at : Matrix → ℕ → List Float
row_at a i = get_or a i []

abbrev pub entry : Matrix → ℕ → ℕ → Float
entry a i j = row_at a i ‼ j

-- +0 throughout
abbrev pub zero_row : List Float
zero_row = replicate max_columns plus_zero

abbrev pub zero_matrix : Matrix
zero_matrix = replicate max_columns zero_row

-- the row with these first k numbers; the matrix with these entries in its first k rows and columns
unfoldable pub row : ℕ → (ℕ → Float) → List Float
row k f = table (λ j. cond (ltb j k) (f j) plus_zero) max_columns

unfoldable pub matrix : ℕ → (ℕ → ℕ → Float) → Matrix
matrix k f = table (λ i. cond (ltb i k) (row k (f i)) zero_row) max_columns

-- a b
abbrev pub product_of : ℕ → Matrix → Matrix → Matrix
product_of k a b = matrix k (λ i j. sum_of k (λ m. entry a i m ⊗ entry b m j))

-- the sum of the diagonal
abbrev pub trace_of : ℕ → Matrix → Float
trace_of k a = sum_of k (λ i. entry a i i)

-- the test holds at each of 0, 1, .., n - 1
unfoldable pub every : ℕ → (ℕ → Bool) → Bool
every zero test = true
every (suc n) test = every n test && test n

-- each entry is a finite number
abbrev pub finite_matrix : ℕ → Matrix → Bool
finite_matrix k a = every k (λ i. every k (λ j. finite (entry a i j)))
