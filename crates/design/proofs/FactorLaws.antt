-- The factor grows by one number of a row, and by one row, at a time. Assumes nothing.
use mathlib.Core.Path.{◌≡◌, refl}
use mathlib.Core.List.{List}
use Prim.Native.Nat.{ℕ, ◌+◌}
use native.Mathlib.Numerals.{add-one}
use lib.ListN.{set}
use lib.Ieee.{Float}
use Rattle.floats.specs.Words.{◌⊘◌}
use Rattle.floats.specs.Turns.{turns}
use Rattle.design.specs.Matrix.{Matrix, row_at, entry, zero_row, zero_matrix}
use Rattle.design.specs.Factor.{rest_of, left_to, left_of, with_root, factor_of, fails_at, pivots_of}
use mathlib.Core.Bool.{true}
use Prim.Native.Nat.{◌<◌}
use Rattle.floats.specs.Search.{first_where}
use Rattle.std.specs.Prelude.{None, Ok, Err}
use Rattle.floats.proofs.FirstLaws.{first-at}

module _ (x : List Float) (n : ℕ) where
  pub left-none : (l : Matrix) (i : ℕ) → left_to x n l i 0 ≡ zero_row
  unfolding left_to turns
  left-none l i = refl

  pub left-more : (l : Matrix) (i j : ℕ) → left_to x n l i (j + 1) ≡ set (left_to x n l i j) j (rest_of x n i j (left_to x n l i j) (row_at l j) ⊘ entry l j j)
  unfolding left_to turns
  left-more l i j = rw (add-one j)

  pub factor-none : factor_of x n 0 ≡ zero_matrix
  unfolding factor_of turns
  factor-none = refl

  pub factor-more : (i : ℕ) → factor_of x n (i + 1) ≡ set (factor_of x n i) i (with_root x n i (left_of x n (factor_of x n i) i))
  unfolding factor_of turns
  factor-more i = rw (add-one i)

  -- the answer, where the pivots before held
  pub fails-first : {k i : ℕ} → i < k → first_where i (fails_at x n) ≡ None → fails_at x n i ≡ true → pivots_of x n k ≡ Err (record { 0 = i })
  unfolding pivots_of
  fails-first h none e = rw (first-at (fails_at x n) h none e)

  pub hold-all : (k : ℕ) → first_where k (fails_at x n) ≡ None → pivots_of x n k ≡ Ok tt
  unfolding pivots_of
  hold-all k none = rw none
