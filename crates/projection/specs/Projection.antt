-- M = I - X (X'X)^-1 X', which leaves of a column what the columns X do not explain, and M A M, whose eigenvalues the exact test weighs; A is the difference matrix.
-- x holds the k columns of X, n rows each, one after another, and inv is (X'X)^-1. Sums run first to last from -0, and each operation is rounded once.
-- Definitions only. Assumes nothing.
use Rattle.std.specs.Prelude.{ℕ, min, max, cond, List, eqb, Float}
use Rattle.std.specs.Float.Ieee.{neg}
use Rattle.floats.specs.Words.{◌⊖◌, ◌⊗◌, one}
use Rattle.floats.specs.Sums.{sum_of}
use Rattle.floats.specs.Tables.{symmetric}
use Rattle.design.specs.Matrix.{Matrix, entry}
use Rattle.design.specs.Difference.{difference_at}
use Rattle.design.specs.Law.{column_at}

module _ (x : List Float) (inv : Matrix) (n k : ℕ) where
  -- entry (t, c) of X (X'X)^-1
  unfoldable pub weight : ℕ → ℕ → Float
  weight t c = sum_of k (λ m. column_at x n m t ⊗ entry inv m c)

  -- entry (i, j) of X (X'X)^-1 X'
  unfoldable pub hat : ℕ → ℕ → Float
  hat i j = sum_of k (λ c. weight i c ⊗ column_at x n c j)

  -- entry (i, j) of M, worked out where j ≤ i
  unfoldable pub residual : ℕ → ℕ → Float
  residual i j = cond (eqb i j) (one ⊖ hat i j) (neg (hat i j))

  -- entry (i, j) of M, the one above the diagonal being the one below it
  abbrev pub maker : ℕ → ℕ → Float
  maker i j = residual (max i j) (min i j)

  -- entry (i, j) of M A M, worked out where j ≤ i: row i of M by column j of A M
  unfoldable pub product : ℕ → ℕ → Float
  product i j = sum_of n (λ t. maker i t ⊗ difference_at (λ s. maker s j) n t)

  -- M, and M A M, as a run holds them
  abbrev pub residual_maker : List Float
  residual_maker = symmetric residual n

  abbrev pub mam_of : List Float
  mam_of = symmetric product n
