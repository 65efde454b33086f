-- M A M as it grows. The one idea: each number of its half is the sum of its first t terms, and k terms more go on from there; with all n terms it is M A M, worked out from the
-- numbers that M's run holds. Assumes nothing.
use Prim.Native.Nat.{ℕ, ◌+◌, ◌<◌, min, max}
use native.Mathlib.Omega.{arith}
use mathlib.Core.Path.{◌≡◌, refl, ap, ◌∙◌}
use mathlib.Core.List.{List}
use lib.ListN.{length}
use lib.Ieee.{Float}
use Rattle.floats.specs.Words.{◌⊗◌, minus_zero}
use Rattle.floats.specs.Sums.{sum_of}
use Rattle.floats.specs.Tables.{table, triangle, half}
use Rattle.floats.specs.Matrix.{half_entry}
use Rattle.floats.proofs.ListLaws.{sum_same}
use Rattle.floats.proofs.MatrixLaws.{larger-in, smaller-in}
use Rattle.floats.proofs.HalfLaws.{length-half, place-half, entry-half, half-same}
use Rattle.rows.specs.Terms.{sum_from}
use Rattle.rows.proofs.TermLaws.{sum-group}
use Rattle.design.specs.Difference.{difference_at}
use Rattle.design.proofs.DifferenceLaws.{difference-same}
use Rattle.projection.specs.Projection.{residual, maker, product}
use Rattle.projection.proofs.TriangleLaws.{half-fill}

-- ---- M A M, of the first t terms
module _ (n : ℕ) (m : List Float) where
  abbrev pub term : ℕ → ℕ → ℕ → Float
  term i j t = half_entry m i t ⊗ difference_at (λ s. half_entry m s j) n t

  unfoldable pub product_to : ℕ → List Float
  product_to t = half (λ i j. sum_of t (term i j)) n

  pub length-product : (t : ℕ) → length (product_to t) ≡ triangle n
  unfolding product_to
  length-product t = length-half (λ i j. sum_of t (term i j)) n

  pub product-none : table (λ p. minus_zero) (triangle n) ≡ product_to 0
  unfolding product_to sum_of
  product-none = half-fill minus_zero n

  -- k terms more
  pub product-more : (t k : ℕ) → half (λ i j. sum_from (half_entry (product_to t) i j) k (λ s. term i j (t + s))) n ≡ product_to (t + k)
  unfolding product_to
  product-more t k =
      half-same n (λ i j. sum_from (half_entry (product_to t) i j) k (λ s. term i j (t + s))) (λ i j. sum_of (t + k) (term i j))
      (λ i j h l. ap (λ y. sum_from y k (λ s. term i j (t + s))) (entry-half (λ i j. sum_of t (term i j)) n i j h l) ∙ sum-group t k (term i j))

  pub product-all : product_to n ≡ half (λ i j. sum_of n (term i j)) n
  unfolding product_to
  product-all = refl

-- ---- M A M, from the numbers that M's run holds
module _ (x : List Float) (inv : List (List Float)) (n k : ℕ) where
  maker-entry : (i j : ℕ) → i < n → j < n → half_entry (half (residual x inv n k) n) i j ≡ maker x inv n k i j
  unfolding half_entry
  maker-entry i j h l = place-half (residual x inv n k) n (max i j) (min i j) (larger-in i j h l) (smaller-in i j)

  pub mam-of : half (λ i j. sum_of n (term n (half (residual x inv n k) n) i j)) n ≡ half (product x inv n k) n
  unfolding product
  mam-of =
      half-same n (λ i j. sum_of n (term n (half (residual x inv n k) n) i j)) (product x inv n k)
      (λ i j h l. let o : j < n = omega arith in
      sum_same n (term n (half (residual x inv n k) n) i j) (λ t. maker x inv n k i t ⊗ difference_at (λ s. maker x inv n k s j) n t)
      (λ t b. rw (maker-entry i t h b, difference-same (λ s. half_entry (half (residual x inv n k) n) s j) (λ s. maker x inv n k s j) n (λ s d. maker-entry s j d o) t b)))
