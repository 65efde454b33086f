-- The diagonal of a matrix and the entries below it, as runs of n numbers. Definitions only. Assumes nothing.
use Rattle.std.specs.Prelude.{ℕ, ◌+◌, cond, List, ltb, Float}
use Rattle.floats.specs.Words.{plus_zero}
use Rattle.floats.specs.Tables.{table}
use Rattle.floats.specs.Matrix.{entry}

-- entries (i, i)
abbrev pub diagonal_of : ℕ → List Float → List Float
diagonal_of n a = table (λ i. entry n a i i) n

-- entries (i + 1, i), which couple row i and the next; +0 for the last row
abbrev pub coupling : ℕ → List Float → ℕ → Float
coupling n a i = cond (ltb (i + 1) n) (entry n a (i + 1) i) plus_zero

abbrev pub couplings_of : ℕ → List Float → List Float
couplings_of n a = table (coupling n a) n
