-- A float sum of k + 1 terms that are not negative, each within m roundings of an exact term, is within m + k roundings of the exact sum: each addition but the
-- first, which is from -0, rounds once. One law for any terms. Assumes nothing.
use mathlib.Core.Path.{◌≡◌, refl, subst}
use mathlib.Core.Logic.{◌⊎◌, inl, inr}
use Prim.Native.Nat.{ℕ, zero, suc, ◌+◌, ◌*◌, ◌^◌, ◌≤◌, ◌<◌, zero-le}
use native.Mathlib.Nat.{le_refl, le_trans, le_step, lt_of_le_of_lt, le-add_right, zero-add, add-zero, add-mul, add-suc, mul-le-mul_right, le_of_mul-le-mul_right}
use native.Mathlib.Omega.{arith}
use mathlib.Core.Bool.{false}
use mathlib.Core.List.{List}
use lib.Dec.{T, lit<}
use lib.Pow.{pow_pos}
use lib.Ieee.{Float, binary64, fits}
use Rattle.floats.specs.Words.{◌⊕◌, ◌⊖◌, ◌‼◌, minus_zero, square_of}
use Rattle.floats.specs.Sums.{sum_of}
use Rattle.autocorrelation.specs.Bound.{exact, exact_difference, squared, exact_sum}
use Rattle.autocorrelation.proofs.Close.{Close, close-add, close_more, close-times, close-trans, close-double}
use Rattle.autocorrelation.proofs.Rounding.{Valued, round_whole}
use Rattle.autocorrelation.proofs.Units.{plus-is, start_is, held-rounds}

-- x is g units and not negative, and within k roundings of X, which counts units of 2^-2148
pub record Term (k : ℕ) (x : Float) (X : ℕ) : Type 0 where
  pub g : ℕ
  pub val : Valued x false g
  pub near : Close k (g * 2 ^ 1074) X

-- ---- the first term, and one more

first : (k : ℕ) (x : Float) (X : ℕ) → T (fits binary64 x) → Term k x X → Term k (minus_zero ⊕ x) X
first k x X h a = record { g = a.g; val = rw (start_is x a.g a.val) (held-rounds x a.g h a.val).1; near = a.near }

-- far from overflow
short : (k g X : ℕ) → k ≤ 2 ^ 52 → X ≤ 2 ^ 2700 → Close k (g * 2 ^ 1074) X → g < 2 ^ 2097
short k g X h B c = lt_of_le_of_lt (le_of_mul-le-mul_right {m = g} {n = 2 ^ 1627} {k = 2 ^ 1074} (le_trans (close-double h c) (mul-le-mul_right 2 B)) (pow_pos 1074)) (lit< tt)

next : (k m : ℕ) (s x : Float) (S X : ℕ) → m ≤ k → k ≤ 2 ^ 52 → S + X ≤ 2 ^ 2700 → Term k s S → Term m x X → Term (suc k) (s ⊕ x) (S + X)
next k m s x S X h K B a b =
    let c : Close k ((a.g + b.g) * 2 ^ 1074) (S + X) = rw (add-mul a.g b.g (2 ^ 1074)) (close-add a.near (close_more h b.near)) in
    let r = round_whole false (a.g + b.g) (short k (a.g + b.g) (S + X) K B c) in
    record { g = r.0; val = rw (plus-is s x a.g b.g a.val b.val) r.1; near = subst (λ (i : ℕ). Close i (r.0 * 2 ^ 1074) (S + X)) (omega arith) (close-trans (close-times (2 ^ 1074) r.2) c) }

-- THE SUM
module _ (m : ℕ) (term : ℕ → Float) (X : ℕ → ℕ) (held : T (fits binary64 (term 0))) where
  pub sum-close : (k : ℕ) → m + k ≤ 2 ^ 52 → exact_sum (suc k) X ≤ 2 ^ 2700 → ((t : ℕ) → t < suc k → Term m (term t) (X t)) → Term (m + k) (sum_of (suc k) term) (exact_sum (suc k) X)
  unfolding sum_of exact_sum
  sum-close zero h B each = rw (add-zero m, zero-add (X 0)) (first m (term 0) (X 0) held (each 0 (le_refl 1)))
  sum-close (suc k) h B each =
      rw (add-suc m k)
      (next (m + k) m (sum_of (suc k) term) (term (suc k)) (exact_sum (suc k) X) (X (suc k)) (le-add_right m k) (omega arith) B
      (sum-close k (omega arith) (le_trans (le-add_right (exact_sum (suc k) X) (X (suc k))) B) (λ (t : ℕ) (g : t < suc k). each t (le_step g)))
      (each (suc k) (le_refl (suc (suc k)))))

-- ---- an exact sum of n numbers that are 0, or from lo to hi
pub record Among (lo hi X : ℕ) : Type 0 where
  pub from : (X ≡ 0) ⊎ (lo ≤ X)
  pub up_to : X ≤ hi

pub sum-among : (lo hi : ℕ) (X : ℕ → ℕ) (n : ℕ) → ((t : ℕ) → t < n → Among lo hi (X t)) → Among lo (n * hi) (exact_sum n X)
unfolding exact_sum
sum-among lo hi X zero each = record { from = inl refl; up_to = zero-le }
sum-among lo hi X (suc n) each =
    let a = sum-among lo hi X n (λ (t : ℕ) (g : t < n). each t (le_step g)) in
    let b = each n (le_refl (suc n)) in
    record { from = either (exact_sum n X) (X n) a.from b.from; up_to = omega (arith, a.up_to, b.up_to) }
  where
    either : (S Z : ℕ) → (S ≡ 0) ⊎ (lo ≤ S) → (Z ≡ 0) ⊎ (lo ≤ Z) → (S + Z ≡ 0) ⊎ (lo ≤ S + Z)
    either S Z (inl p) (inl q) = inl (omega arith)
    either S Z (inr p) q = inr (omega arith)
    either S Z (inl p) (inr q) = inr (omega arith)

-- ---- the sums of the statistic, of k terms: computed, and exact
abbrev pub SD : List Float → ℕ → Float
SD e k = sum_of k (λ t. square_of (e ‼ (t + 1) ⊖ e ‼ t))

abbrev pub SS : List Float → ℕ → Float
SS e k = sum_of k (λ t. square_of (e ‼ t))

abbrev pub exact_sd : List Float → ℕ → ℕ
exact_sd e k = exact_sum k (λ t. squared (exact_difference e t))

abbrev pub exact_ss : List Float → ℕ → ℕ
exact_ss e k = exact_sum k (λ t. squared (exact (e ‼ t)))
