-- `sqrt_of` and `hypot_of` at each kind of f64 that `sqrt` and `hypot` tell apart, by the bits. Assumes nothing.
use Rattle.std.proofs.Common.{◌≡◌, ℕ, zero, suc, ◌+◌, ◌-◌, ◌*◌, ◌/◌, ◌%◌, ◌^◌, ◌<◌, ◌≤◌, Bool, true, false, not, T, ℤ, sym, refl, ap, ◌∙◌, true≢false, le-add_right, lt_of_le_of_lt, le_of_lt, mul-le-mul_right, mod-eq_of_lt, zero-lt-suc, mul_assoc, add_comm, mul-lt-mul_of_pos_right, mul-pos, lt_of_not-le, not-le_of_lt, mul-div_cancel, arith, lit≤, pow_pos, pow_mono, pow-add, ltb-false, ltb-true}
use native.Mathlib.Nat.{pow-succ'}
use mathlib.Core.Bool.{false≢true}
use lib.Count.{count_leading_zeros, leading_top}
use lib.Ieee.{Float, nan, inf, fin, binary64, up, down, lt, div, fits, is_nan, of_bits, to_bits}
use lib.Ieee.Fits.{up_pos, down_pos}
use lib.Ieee.Bits.{of_bits-to_bits}
use lib.Ieee.Exact.{HasValue}
use Rattle.floats.specs.Words.{plus_zero}
use Rattle.floats.specs.Signs.{minus}
use Rattle.roots.specs.Root.{sqrt_of, root_of}
use Rattle.roots.specs.Hypot.{in_units, hypot_of}
use Rattle.roots.specs.Nearest.{Sized}
use Rattle.roots.specs.Patterns.{top, units_of, square_sum}
use Rattle.roots.proofs.Ladder.{rising, below_top, own_value, size_below, size-value}
use Rattle.roots.proofs.Rounding.{root-beyond}

pub negative : (x : Float) → lt x plus_zero ≡ true → div binary64 plus_zero plus_zero ≡ sqrt_of x
unfolding lt div of_bits sqrt_of
negative nan h = refl
negative (inf true) h = refl
negative (inf false) h = absurd (false≢true h)
negative (fin true zero e) h = absurd (omega (arith, ltb-true))
negative (fin true (suc m) e) h = refl
negative (fin false m e) h = absurd (omega (arith, ltb-true))

pub number : (x : Float) → lt plus_zero x ≡ true → T (not (is_nan x))
unfolding lt is_nan of_bits
number nan h = absurd (false≢true h)
number (inf s) h = tt
number (fin s m e) h = tt

-- what is neither below zero nor above it, a zero or a NaN, is its own root
pub level : (x : Float) → lt x plus_zero ≡ false → lt plus_zero x ≡ false → x ≡ sqrt_of x
unfolding lt of_bits sqrt_of
level nan h k = refl
level (inf true) h k = absurd (true≢false h)
level (inf false) h k = absurd (true≢false k)
level (fin s zero e) h k = refl
level (fin true (suc m) e) h k = absurd (omega (arith, ltb-false, up_pos e))
level (fin false (suc m) e) h k = absurd (omega (arith, ltb-false, up_pos e))

-- ---- above zero: infinity, or a finite value by its pattern
pub infinite : (x : Float) → T (fits binary64 x) → lt plus_zero x ≡ true → to_bits binary64 x / 2 ^ 52 ≡ 2047 → x ≡ sqrt_of x
unfolding lt of_bits sqrt_of minus
infinite nan F h e = refl
infinite (inf true) F h e = absurd (false≢true h)
infinite (inf false) F h e = refl
infinite (fin true m d) F h e = absurd (false≢true h)
infinite (fin false m d) F h e = absurd (omega (arith, below_top (fin false m d) F tt refl))

-- a number of A units
in-units : (m : ℕ) (e : ℤ) (A : ℕ) → m * up e * 2 ^ 1074 ≡ A * down e → in_units m e ≡ A
in-units m e A h = ap (λ (n : ℕ). n / down e) h ∙ mul-div_cancel A (down_pos e)

-- the root of a units
pub sqrt-units : (x : Float) (a : ℕ) → 0 < a → HasValue x false a (2 ^ 1074) → sqrt_of x ≡ root_of (a * 2 ^ 1074)
unfolding sqrt_of
sqrt-units nan a p h = absurd h
sqrt-units (inf s) a p h = absurd h
sqrt-units (fin s zero e) a p h = absurd (none (up e) (2 ^ 1074) (a * down e) (mul-pos p (down_pos e)) h.1)
  where
    none : (u w y : ℕ) → 0 < y → 0 * u * w ≡ y → ⊥
    none u w y p e = omega arith
sqrt-units (fin true (suc m) e) a p h = absurd (true≢false h.0)
sqrt-units (fin false (suc m) e) a p h = ap (λ (n : ℕ). root_of (n * 2 ^ 1074)) (in-units (suc m) e a h.1)

-- x has the pattern b, above 0's and below infinity's
pub root-at : (x : Float) → T (fits binary64 x) → let b = to_bits binary64 x in 0 < b → b < top → sqrt_of x ≡ root_of (units_of b * 2 ^ 1074)
root-at x F s u = let b = to_bits binary64 x in sqrt-units x (units_of b) (rising 0 b s) (own_value x F u)

-- x is finite and above zero, with the pattern b
pub record Positive (x : Float) (b : ℕ) : Type 0 where
  pub some : 0 < b
  pub below : b < top
  pub root : sqrt_of x ≡ root_of (units_of b * 2 ^ 1074)

bounded : (x : Float) → T (fits binary64 x) → lt plus_zero x ≡ true → (to_bits binary64 x / 2 ^ 52 ≡ 2047 → ⊥) → to_bits binary64 x < top
unfolding lt of_bits to_bits minus
bounded nan F h n = absurd (false≢true h)
bounded (inf true) F h n = absurd (false≢true h)
bounded (inf false) F h n = absurd (n refl)
bounded (fin true m d) F h n = absurd (false≢true h)
bounded (fin false m d) F h n = below_top (fin false m d) F tt refl

some : (b : ℕ) → lt plus_zero (of_bits binary64 b) ≡ true → 0 < b
unfolding lt of_bits
some zero h = absurd (false≢true h)
some (suc b) h = zero-lt-suc b

pub positive : (x : Float) → T (fits binary64 x) → lt plus_zero x ≡ true → (to_bits binary64 x / 2 ^ 52 ≡ 2047 → ⊥) → Positive x (to_bits binary64 x)
positive x F h n =
    let b = to_bits binary64 x in
    let u = bounded x F h n in
    let s : 0 < b = some b (rw (of_bits-to_bits binary64 x F) h) in
    record { some = s; below = u; root = root-at x F s u }

-- a pattern below infinity's is a number's
pub finite : (x : Float) → to_bits binary64 x < top → T (not (is_nan x))
unfolding to_bits is_nan
finite nan h = absurd (omega arith)
finite (inf s) h = tt
finite (fin s m e) h = tt

-- ---- its units with 53 digits, the leading one as the field has it, or shifted up to where a field would have it: as `root_bits` has them
pub normal : (b : ℕ) → 2 ^ 52 ≤ b → let w = b + 1021 * 2 ^ 52 in (2 ^ 52 + w % 2 ^ 52) * 2 ^ (w / 2 ^ 52 + 52) ≡ units_of b * 2 ^ 1074
normal b n =
    let w = b + 1021 * 2 ^ 52 in
    let k = b / 2 ^ 52 - 1 in
    let e : w / 2 ^ 52 + 52 ≡ k + 1074 = omega arith in
    let q : 2 ^ 52 + w % 2 ^ 52 ≡ b - k * 2 ^ 52 = omega arith in
    rw (e, q, pow-add 2 k 1074) (sym (mul_assoc (b - k * 2 ^ 52) (2 ^ k) (2 ^ 1074)))

-- t, shifted by z so that its highest digit stands at bit 52
pub record Shift (t z : ℕ) : Type 0 where
  pub zeros : 11 ≤ count_leading_zeros 64 t
  pub most : z ≤ 52
  pub from : 2 ^ 52 ≤ t * 2 ^ z % 2 ^ 64
  pub below : t * 2 ^ z % 2 ^ 64 < 2 ^ 53
  pub same : t * 2 ^ z % 2 ^ 64 ≡ t * 2 ^ z

pub shift : (t : ℕ) → 0 < t → t < 2 ^ 52 → Shift t (count_leading_zeros 64 t - 11)
shift t p u =
    let top = leading_top 64 t p (omega arith) in
    let j = top.0 in
    let z = count_leading_zeros 64 t - 11 in
    let l : j < 52 = lt_of_not-le (λ (g : 52 ≤ j). not-le_of_lt (lt_of_le_of_lt top.2 u) (pow_mono g)) in
    let e : j + z ≡ 52 = omega (arith, top.1) in
    let w : 2 ^ j * 2 ^ z ≡ 2 ^ 52 = sym (pow-add 2 j z) ∙ rw e in
    let lo : 2 ^ 52 ≤ t * 2 ^ z = omega (arith, mul-le-mul_right (2 ^ z) top.2) in
    let hi : t * 2 ^ z < 2 ^ 53 = omega (arith, rw (pow-succ' 2 j) at (mul-lt-mul_of_pos_right top.3 (pow_pos z))) in
    let same : t * 2 ^ z % 2 ^ 64 ≡ t * 2 ^ z = mod-eq_of_lt (omega arith) in
    record { zeros = omega (arith, top.1); most = omega arith; from = omega arith; below = omega arith; same = same }

pub subnormal : (b z : ℕ) → b / 2 ^ 52 ≡ 0 → Shift b z → let w = b * 2 ^ z % 2 ^ 64 + (1021 - z) * 2 ^ 52 in (2 ^ 52 + w % 2 ^ 52) * 2 ^ (w / 2 ^ 52 + 52) ≡ units_of b * 2 ^ 1074
subnormal b z e s =
    let w = b * 2 ^ z % 2 ^ 64 + (1021 - z) * 2 ^ 52 in
    let i : w / 2 ^ 52 + 52 ≡ 1074 - z = omega (arith, s.most, s.from, s.below) in
    let d : 2 ^ 52 + w % 2 ^ 52 ≡ b * 2 ^ z = omega (arith, s.most, s.from, s.below, s.same) in
    let l : z + (1074 - z) ≡ 1074 = omega (arith, s.most) in
    let q : b ≡ (b - 0) * 1 = omega arith in
    rw (i, d, mul_assoc b (2 ^ z) (2 ^ (1074 - z)), ← pow-add 2 z (1074 - z), l, e) (ap (λ (x : ℕ). x * 2 ^ 1074) q)

-- ---- hypot, by the bits of two numbers with their signs off: an infinity's stand for 2 ^ 2098 units, from where on a root is infinite
pub number-below : (x : Float) → T (fits binary64 x) → is_nan x ≡ false → to_bits binary64 x % 2 ^ 63 ≤ top
unfolding to_bits is_nan
number-below nan F h = absurd (true≢false h)
number-below (inf true) F h = lit≤ tt
number-below (inf false) F h = lit≤ tt
number-below (fin s m e) F h = le_of_lt (size_below (fin s m e) F tt)

pub hypot-units : (x y : Float) (A B : ℕ) → Sized x A → Sized y B → hypot_of x y ≡ root_of (A * A + B * B)
unfolding hypot_of
hypot-units nan y A B s t = absurd s.value
hypot-units (inf u) y A B s t = absurd s.value
hypot-units (fin u m e) nan A B s t = absurd t.value
hypot-units (fin u m e) (inf v) A B s t = absurd t.value
hypot-units (fin u m e) (fin v n d) A B s t = rw (in-units m e A s.value.1, in-units n d B t.value.1)

pub squares-swap : (p q : ℕ) → square_sum p q ≡ square_sum q p
squares-swap p q = add_comm (units_of p * units_of p) (units_of q * units_of q)

top-first : (s : Bool) (q : ℕ) → inf false ≡ root_of (square_sum (to_bits binary64 (inf s) % 2 ^ 63) q)
unfolding to_bits
top-first true q = sym (root-beyond (square_sum top q) (le-add_right (units_of top * units_of top) (units_of q * units_of q)))
top-first false q = sym (root-beyond (square_sum top q) (le-add_right (units_of top * units_of top) (units_of q * units_of q)))

pub hypot-at : (x y : Float) → T (fits binary64 x) → T (fits binary64 y) → is_nan x ≡ false → is_nan y ≡ false → hypot_of x y ≡ root_of (square_sum (to_bits binary64 x % 2 ^ 63) (to_bits binary64 y % 2 ^ 63))
unfolding hypot_of is_nan
hypot-at nan y F G h k = absurd (true≢false h)
hypot-at (inf s) y F G h k = top-first s (to_bits binary64 y % 2 ^ 63)
hypot-at (fin s m e) nan F G h k = absurd (true≢false k)
hypot-at (fin s m e) (inf t) F G h k = top-first t (to_bits binary64 (fin s m e) % 2 ^ 63) ∙ ap root_of (squares-swap (to_bits binary64 (inf t) % 2 ^ 63) (to_bits binary64 (fin s m e) % 2 ^ 63))
hypot-at (fin s m e) (fin t n d) F G h k = hypot-units (fin s m e) (fin t n d) _ _ (record { sign = _; value = size-value (fin s m e) F tt }) (record { sign = _; value = size-value (fin t n d) G tt })
