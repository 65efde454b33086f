-- One rounding to binary64 is worth one k of `Close`: where the fraction is normal, since it keeps 53 digits and half of the last is at most a part in
-- 2^53; and where the fraction is a whole number of units of 2^-1074, since below 2^53 units nothing is rounded. Assumes nothing.
use mathlib.Core.Path.{◌≡◌, sym, ap, ◌∙◌, subst}
use mathlib.Core.Logic.{◌⊎◌, inl, inr}
use Prim.Native.Nat.{ℕ, ◌+◌, ◌-◌, ◌*◌, ◌/◌, ◌%◌, ◌^◌, ◌≤◌, ◌<◌, compare, Ordering}
use native.Mathlib.Nat.{le_trans, le_of_eq, lt_of_lt_of_le, lt_of_le_of_lt, lt_of_not-le, not-le_of_lt, mul_comm, mul_assoc, mul-one, zero-mul, mul-le-mul_right, mul-lt-mul_of_pos_right, mul-pos, div-add-mod', mod-lt, le-div_iff_mul-le}
use native.Mathlib.Omega.{arith}
use mathlib.Core.Bool.{Bool, true, false, not}
use lib.Dec.{T, is_le, compare_is_eq, eqb, leb, leb→le, nleb→lt, eqb→eq, eqb_refl, lit≤, lit<}
use lib.Arith.{lt_of_le-ne}
use lib.Pow.{pow-add, pow_pos, pow_mono}
use lib.Ieee.{Float, binary64, nearest, size, round}
use lib.Ieee.Digits.{size-lt, size_reaches}
use lib.Ieee.Nearest.{closest, nearest-ge}
use lib.Ieee.Order.{drop, kept}
use lib.Ieee.Scale.{grid, round_same}
use lib.Ieee.Fits.{round_is}
use lib.Ieee.Exact.{HasValue, units_val, round_exact}
use Rattle.autocorrelation.proofs.Close.{Close, close-refl, close_more, close-times, close-over, close-double}

-- x is finite, with the sign s, and a units in size
abbrev pub Valued : Float → Bool → ℕ → Type 0
Valued x s a = HasValue x s a (2 ^ 1074)

-- ---- a quotient rounded to the nearest whole number is off by at most a half

-- what `compare` says
abbrev Cmp : Ordering → ℕ → ℕ → Type 0
Cmp Ordering.lt a b = a < b
Cmp Ordering.eq a b = a ≡ b
Cmp Ordering.gt a b = b < a

cmp : (a b : ℕ) → Cmp (compare a b) a b
cmp a b = go (compare a b) (leb→le a b) (nleb→lt a b) (eqb→eq a b) (λ (e : a ≡ b). subst (λ (x : ℕ). T (eqb a x)) e (eqb_refl a))
  where
    go : (o : Ordering) → (T (is_le o) → a ≤ b) → (T (not (is_le o)) → b < a) → (T (compare_is_eq o) → a ≡ b) → (a ≡ b → T (compare_is_eq o)) → Cmp o a b
    go Ordering.lt h k e n = lt_of_le-ne (h tt) n
    go Ordering.eq h k e n = e tt
    go Ordering.gt h k e n = k tt

pub record Half (v n u : ℕ) : Type 0 where
  pub over : 2 * v ≤ 2 * n + u
  pub under : 2 * n ≤ 2 * v + u

nearest-half : (q r u : ℕ) (o : Ordering) → Cmp o (r * 2) u → r < u → Half (nearest q o * u) (q * u + r) u
nearest-half q r u Ordering.lt c l = record { over = omega arith; under = omega arith }
nearest-half q r u Ordering.eq c l = tie (q % 2) (omega arith)
  where
    tie : (b : ℕ) → b ≤ 1 → Half ((q + b) * u) (q * u + r) u
    tie b h = let g : b * u ≤ 1 * u = mul-le-mul_right u h in record { over = omega arith; under = omega arith }
nearest-half q r u Ordering.gt c l = record { over = omega arith; under = omega arith }

pub closest-half : (n u : ℕ) → 0 < u → Half (closest n u * u) n u
closest-half n u U = subst (λ (x : ℕ). Half (closest n u * u) x u) (div-add-mod' n u) (nearest-half (n / u) (n % u) u (compare (n % u * 2) u) (cmp (n % u * 2) u) (mod-lt n U))

-- ---- a / c rounded: `grid` units

-- half of u is at most a part in 2^53 of n, and of v
half-close : (v n u : ℕ) → Half v n u → 2 ^ 52 * u ≤ n → 2 ^ 52 * u ≤ v → Close 1 v n
half-close v n u h a b = record { below = omega (arith, h.over); above = omega (arith, h.under) }

size-gt : (n j : ℕ) → 2 ^ j ≤ n → j < size n
size-gt n j h = lt_of_not-le (λ (g : size n ≤ j). not-le_of_lt (lt_of_lt_of_le (size-lt n) (pow_mono g)) h)

-- a normal fraction
normal-close : (n c : ℕ) → 0 < c → 2 ^ 52 * c ≤ n → Close 1 (kept 53 n c * 2 ^ drop 53 n c * c) n
normal-close n c C h =
    let k = drop 53 n c in
    let u = c * 2 ^ k in
    let U : 0 < u = mul-pos C (pow_pos k) in
    let z : 52 < size (n / c) = size-gt (n / c) 52 ((le-div_iff_mul-le C).1 h) in
    let b : 2 ^ 52 * u ≤ n = le_trans (le_of_eq (turn (2 ^ 52) k ∙ ap (λ (x : ℕ). x * c) (sym (pow-add 2 52 k)))) ((le-div_iff_mul-le C).0 (size_reaches (n / c) (52 + k) (past (size (n / c)) z))) in
    let d : 2 ^ 52 * u ≤ closest n u * u = mul-le-mul_right u (le_trans ((le-div_iff_mul-le U).1 b) (nearest-ge (n / u) (compare (n % u * 2) u))) in
    subst (λ (x : ℕ). Close 1 x n) (turn (closest n u) k) (half-close (closest n u * u) n u (closest-half n u U) b d)
  where
    turn : (q k : ℕ) → q * (c * 2 ^ k) ≡ q * 2 ^ k * c
    turn q k = ap (λ (x : ℕ). q * x) (mul_comm c (2 ^ k)) ∙ sym (mul_assoc q (2 ^ k) c)

    past : (z : ℕ) → 52 < z → 52 + (z - 53) < z
    past z h = omega arith

-- ---- `round`, short of overflow

pub round-units : (s : Bool) (a c : ℕ) → grid binary64 a c < 2 ^ 2098 → Valued (round binary64 s a c) s (grid binary64 a c)
round-units s a c h =
    subst (λ (z : Float). Valued z s (grid binary64 a c)) (sym (round_is binary64 s a c)) (units_val binary64 s (kept 53 (a * 2 ^ 1074) c) (drop 53 (a * 2 ^ 1074) c) h)

-- a normal fraction a / c
round-normal : (s : Bool) (a c : ℕ) → 0 < c → 2 ^ 52 * c ≤ a * 2 ^ 1074 → a * 2 ^ 1074 < 2 ^ 2097 * c → (g : ℕ) × Valued (round binary64 s a c) s g × Close 1 (g * c) (a * 2 ^ 1074)
round-normal s a c C h l =
    let near : Close 1 (grid binary64 a c * c) (a * 2 ^ 1074) = normal-close (a * 2 ^ 1074) c C h in
    (grid binary64 a c, round-units s a c (under (grid binary64 a c) (a * 2 ^ 1074) (2 ^ 2097) (close-double (lit≤ tt) near) l), near)
  where
    under : (g n M : ℕ) → g * c ≤ n * 2 → n < M * c → g < M * 2
    under g n M h l = lt_of_not-le (λ (m : M * 2 ≤ g). let k : M * 2 * c ≤ g * c = mul-le-mul_right c m in omega arith)

-- W units
pub round_whole : (s : Bool) (W : ℕ) → W < 2 ^ 2097 → (g : ℕ) × Valued (round binary64 s W (2 ^ 1074)) s g × Close 1 g W
round_whole s W h = go (leb (2 ^ 53) W) (leb→le (2 ^ 53) W) (nleb→lt (2 ^ 53) W)
  where
    go : (b : Bool) → (T b → 2 ^ 53 ≤ W) → (T (not b) → W < 2 ^ 53) → (g : ℕ) × Valued (round binary64 s W (2 ^ 1074)) s g × Close 1 g W
    go true l g =
        let r = round-normal s W (2 ^ 1074) (pow_pos 1074) (mul-le-mul_right {m = 2 ^ 52} {n = W} (2 ^ 1074) (le_trans (lit≤ tt) (l tt))) (mul-lt-mul_of_pos_right h (pow_pos 1074)) in
        (r.0, r.1, close-over (2 ^ 1074) (pow_pos 1074) r.2)
    go false l g = (
      W,
      round_exact binary64 s W (2 ^ 1074) W 0 (pow_pos 1074) (g tt) (lt_of_le_of_lt (le_of_eq (mul-one W)) (lt_of_lt_of_le (g tt) (lit≤ tt))) (ap (λ (z : ℕ). z * 2 ^ 1074) (sym (mul-one W))),
      close_more (lit≤ tt) close-refl,
    )

-- a fraction a / c that is 0 or normal
pub round-fine : (s : Bool) (a c : ℕ) → 0 < c → (a ≡ 0) ⊎ (2 ^ 52 * c ≤ a * 2 ^ 1074) → a * 2 ^ 1074 < 2 ^ 2097 * c → (g : ℕ) × Valued (round binary64 s a c) s g × Close 1 (g * c) (a * 2 ^ 1074)
round-fine s a c C (inl z) h =
    let r = round_whole s 0 (lit< tt) in
    let n : a * 2 ^ 1074 ≡ 0 * c = ap (λ (i : ℕ). i * 2 ^ 1074) z ∙ sym (zero-mul c) in
    (r.0, rw (round_same binary64 s a c 0 (2 ^ 1074) C (pow_pos 1074) n) r.1, rw n (close-times c r.2))
round-fine s a c C (inr l) h = round-normal s a c C l h
