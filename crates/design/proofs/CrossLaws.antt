-- From a run that holds A X, the products of its columns are X'AX and (AX)'(AX). Assumes nothing.
use mathlib.Core.Path.{◌≡◌, refl}
use mathlib.Core.Bool.{Bool, true, false, cond}
use mathlib.Core.List.{List}
use Prim.Native.Nat.{ℕ, ◌*◌, ◌<◌}
use lib.Dec.{ltb}
use lib.Ieee.{Float}
use borrow.Author.Tests.{ltb-true}
use Rattle.floats.specs.Limits.{max_columns}
use Rattle.floats.specs.Words.{plus_zero}
use Rattle.floats.specs.Sums.{sum_products}
use Rattle.floats.proofs.ListLaws.{sum_same}
use Rattle.floats.proofs.TableLaws.{table_same}
use Rattle.design.specs.Matrix.{row, matrix, zero_row}
use Rattle.design.specs.Law.{cross_of, squares_of}
use Rattle.design.proofs.DifferenceLaws.{Differences}

-- what is guarded by i < k has only to agree there
guarded : {A : Type 0} (i k : ℕ) (a b z : A) → (i < k → a ≡ b) → cond (ltb i k) a z ≡ cond (ltb i k) b z
guarded {A} i k a b z h = go (ltb i k) refl
  where
    go : (t : Bool) → ltb i k ≡ t → cond t a z ≡ cond t b z
    go true e = h (ltb-true i k e)
    go false e = refl

pub row_same : (k : ℕ) (f g : ℕ → Float) → ((j : ℕ) → j < k → f j ≡ g j) → row k f ≡ row k g
unfolding row
row_same k f g h = table_same _ _ max_columns (λ j l. guarded j k (f j) (g j) plus_zero (h j))

pub matrix-same : (k : ℕ) (f g : ℕ → ℕ → Float) → ((i j : ℕ) → i < k → j < k → f i j ≡ g i j) → matrix k f ≡ matrix k g
unfolding matrix
matrix-same k f g h = table_same _ _ max_columns (λ i l. guarded i k (row k (f i)) (row k (g i)) zero_row (λ m. row_same k (f i) (g i) (λ j. h i j m)))

module _ (x : List Float) (n k : ℕ) (d : List Float) (w : Differences x n k d) where
  pub cross-is : matrix k (λ i j. sum_products x (i * n) d (j * n) n) ≡ cross_of x n k
  cross-is = matrix-same k _ _ (λ i j l m. sum_same n _ _ (λ t h. rw (w j t m h)))

  pub squares-are : matrix k (λ i j. sum_products d (i * n) d (j * n) n) ≡ squares_of x n k
  squares-are = matrix-same k _ _ (λ i j l m. sum_same n _ _ (λ t h. rw (w i t l h, w j t m h)))
