-- A rounding crosses no power of two: a fraction of 2^j units or more rounds to 2^j or more, and one of 2^(b + 54) units or less to 2^(b + 54) or less, even with 2^b
-- on top, since that is less than half of the last digit. So a sum of terms up to 2^b stays up to 2^(b + 54), however many there are. Assumes nothing.
use mathlib.Core.Path.{◌≡◌, sym, ap, ◌∙◌, subst}
use Prim.Native.Nat.{ℕ, suc, ◌+◌, ◌-◌, ◌*◌, ◌/◌, ◌%◌, ◌^◌, ◌≤◌, ◌<◌, zero-le, compare}
use native.Mathlib.Nat.{le_trans, le_of_eq, le_of_lt, lt_of_le_of_lt, mul_comm, mul_assoc, mul-le-mul_right, mul-lt-mul_of_pos_right, mul-pos, one-mul, sub-add_cancel, le-div_iff_mul-le, div-lt_iff_lt-mul, div-div-eq-div-mul}
use native.Mathlib.Omega.{arith}
use mathlib.Core.Bool.{Bool, true, false, not}
use lib.Dec.{T, leb, leb→le, nleb→lt}
use lib.Pow.{pow-add, pow_pos, pow_mono}
use lib.Ieee.{size}
use lib.Ieee.Digits.{size-le, size_reaches}
use lib.Ieee.Fits.{nearest-le, kept-lt}
use lib.Ieee.Nearest.{nearest-ge}
use lib.Ieee.Order.{drop, kept}
use Rattle.autocorrelation.proofs.Rounding.{closest-half}

-- j digits above k
raised : (j k : ℕ) → k ≤ j → 2 ^ j ≡ 2 ^ (j - k) * 2 ^ k
raised j k h = ap (λ (i : ℕ). 2 ^ i) (sym (sub-add_cancel h)) ∙ pow-add 2 (j - k) k

-- n / c units, of which `kept` times u are kept
module _ (n c : ℕ) (C : 0 < c) where
  abbrev k : ℕ
  k = drop 53 n c

  abbrev u : ℕ
  u = c * 2 ^ k

  U : 0 < u
  U = mul-pos C (pow_pos k)

  around : (z : ℕ) → z * u ≡ z * 2 ^ k * c
  around z = ap (λ (i : ℕ). z * i) (mul_comm c (2 ^ k)) ∙ sym (mul_assoc z (2 ^ k) c)

  keeps : (z : ℕ) → z * 2 ^ k * c ≤ n → z ≤ kept 53 n c
  keeps z h = le_trans ((le-div_iff_mul-le U).1 (le_trans (le_of_eq (around z)) h)) (nearest-ge (n / u) (compare (n % u * 2) u))

  pub at_least : (j : ℕ) → 2 ^ j * c ≤ n → 2 ^ j ≤ kept 53 n c * 2 ^ k
  at_least j h = go (leb k j) (leb→le k j) (nleb→lt k j)
    where
      go : (t : Bool) → (T t → k ≤ j) → (T (not t) → j < k) → 2 ^ j ≤ kept 53 n c * 2 ^ k
      go true l g = le_trans (le_of_eq (raised j k (l tt))) (mul-le-mul_right (2 ^ k) (keeps (2 ^ (j - k)) (le_trans (le_of_eq (ap (λ (i : ℕ). i * c) (sym (raised j k (l tt))))) h)))
      go false l g =
          let m : 2 ^ k * c ≤ n = (le-div_iff_mul-le C).0 (size_reaches (n / c) k (less (size (n / c)) (lt_of_le_of_lt zero-le (g tt)))) in
          le_trans (pow_mono (le_of_lt (g tt))) (le_trans (le_of_eq (sym (one-mul (2 ^ k)))) (mul-le-mul_right (2 ^ k) (keeps 1 (le_trans (le_of_eq (ap (λ (i : ℕ). i * c) (one-mul (2 ^ k)))) m))))
        where
          less : (z : ℕ) → 0 < z - 53 → z - 53 < z
          less z h = omega arith

  pub at_most : (b : ℕ) → n ≤ (2 ^ (b + 54) + 2 ^ b) * c → kept 53 n c * 2 ^ k ≤ 2 ^ (b + 54)
  at_most b h = go (leb k (b + 1)) (leb→le k (b + 1)) (nleb→lt k (b + 1))
    where
      digits : size (n / c) ≤ b + 55
      digits = size-le (n / c) (b + 55) ((div-lt_iff_lt-mul C).1 (lt_of_le_of_lt h (mul-lt-mul_of_pos_right (omega (arith, pow-add 2 b 54, pow-add 2 b 55, pow_pos b)) C)))

      below : kept 53 n c ≤ 2 ^ 53
      below = le_trans (nearest-le (n / u) (compare (n % u * 2) u)) (subst (λ (x : ℕ). x < 2 ^ 53) (div-div-eq-div-mul n c (2 ^ k)) (kept-lt 53 (n / c)))

      half : 2 ^ k ≡ 2 ^ b * 4 → kept 53 n c ≤ 2 ^ 52
      half e =
          let w : u ≡ c * 2 ^ b * 4 = ap (λ (i : ℕ). c * i) e ∙ sym (mul_assoc c (2 ^ b) 4) in
          few (kept 53 n c) (c * 2 ^ b) (mul-pos C (pow_pos b)) (subst (λ (v : ℕ). 2 * (kept 53 n c * v) ≤ 2 * n + v) w (closest-half n u U).over)
          (le_trans h (le_of_eq (ap (λ (i : ℕ). (i + 2 ^ b) * c) (pow-add 2 b 54) ∙ omega (arith, mul_comm c (2 ^ b)))))
        where
          few : (q w : ℕ) → 0 < w → 2 * (q * (w * 4)) ≤ 2 * n + w * 4 → n ≤ w * (2 ^ 54 + 1) → q ≤ 2 ^ 52
          few q w W f g = let m : ¬ (suc (2 ^ 52) ≤ q) = λ (l : suc (2 ^ 52) ≤ q). omega (arith, mul-le-mul_right w l, mul_assoc q w 4) in omega arith

      go : (t : Bool) → (T t → k ≤ b + 1) → (T (not t) → b + 1 < k) → kept 53 n c * 2 ^ k ≤ 2 ^ (b + 54)
      go true l g = le_trans (mul-le-mul_right (2 ^ k) below) (le_trans (le_of_eq (sym (pow-add 2 53 k))) (pow_mono (omega (arith, l tt))))
      go false l g =
          let e : k ≡ b + 2 = omega (arith, g tt, digits) in
          le_trans (mul-le-mul_right (2 ^ k) (half (ap (λ (i : ℕ). 2 ^ i) e ∙ pow-add 2 b 2)))
          (le_of_eq (sym (pow-add 2 52 k) ∙ ap (λ (i : ℕ). 2 ^ i) (omega arith)))
