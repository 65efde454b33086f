-- Which way a standardized point leans: x - mean leans up where x is at or above the mean, and a division by a root above 0 keeps that. The one idea: a value leans s where
-- it has the sign s or is a zero, since a zero counts for either side whatever its sign. Assumes nothing.
use Rattle.std.proofs.Common.{◌≡◌, ℕ, zero, suc, ◌+◌, ◌-◌, ◌*◌, ◌^◌, ◌<◌, ◌≤◌, Bool, true, false, cond, not, ◌&&◌, ◌||◌, T, eqb, ltb, ℤ, pos, sym, refl, ◌∙◌, subst, true≢false, lt_irrefl, mul-pos, zero-mul, arith, lit<, ltb→lt, pow_pos, ltb-false, ltb-true, le-ltb, ne_eqb, eqb-true}
use lib.Ieee.{Float, nan, inf, fin, binary64, up, down, below, level, odd, units, round, sum, add, sub, div, neg, lt, eq, le, is_nan, of_bits}
use lib.Ieee.Fits.{up_pos, down_pos, round_is}
use lib.Ieee.Exact.{HasValue, round_exact}
use lib.Ieee.Scale.{finite}
use lib.Ieee.Positive.{positive}
use Rattle.floats.specs.Words.{◌⊖◌, ◌⊘◌, plus_zero}
use Rattle.floats.proofs.Numbers.{sum_number}

-- the value has the sign s, or is a zero
pub data Leans (s : Bool) : Float → Type 0 where
  wide : Leans s (inf s)
  part : (m : ℕ) (e : ℤ) → Leans s (fin s m e)
  nothing : (t : Bool) (e : ℤ) → Leans s (fin t 0 e)

pub leans-number : {s : Bool} {x : Float} → Leans s x → is_nan x ≡ false
unfolding is_nan
leans-number wide = refl
leans-number (part m e) = refl
leans-number (nothing t e) = refl

-- ---- a rounded fraction
odd-leans : (d : ℕ) (s : Bool) (q k l : ℕ) → Leans s (odd d s q k l)
unfolding odd
odd-leans d s zero k l = part zero (pos zero)
odd-leans d s (suc q) k l = part _ _

units-leans : (s : Bool) (q k : ℕ) → Leans s (units binary64 s q k)
unfolding units
units-leans s q k = go (ltb (q * 2 ^ k) (2 ^ 2098))
  where
    go : (b : Bool) → Leans s (cond b (odd 54 s q k 1074) (inf s))
    go true = odd-leans 54 s q k 1074
    go false = wide

pub round-leans : (s : Bool) (a b : ℕ) → Leans s (round binary64 s a b)
round-leans s a b = rw (round_is binary64 s a b) (units-leans s _ _)

none-by : (m u c : ℕ) → 0 < u → 0 < c → m * u * c ≡ 0 → m ≡ 0
none-by zero u c U C h = refl
none-by (suc m) u c U C h = absurd (lt_irrefl 0 (subst (λ (z : ℕ). 0 < z) h (mul-pos (mul-pos (some m) U) C)))
  where
    some : (m : ℕ) → 0 < suc m
    some m = omega arith

zero-leans : (s t : Bool) (x : Float) (c : ℕ) → 0 < c → HasValue x t 0 c → Leans s x
zero-leans s t nan c C v = absurd v
zero-leans s t (inf u) c C v = absurd v
zero-leans s t (fin u m e) c C v = rw (none-by m (up e) c (up_pos e) C (v.1 ∙ zero-mul (down e))) (nothing u e)

round-zero : (s t : Bool) (a c : ℕ) → 0 < c → a ≡ 0 → Leans s (round binary64 t a c)
round-zero s t a c C e = rw e (zero-leans s t (round binary64 t 0 c) c C (round_exact binary64 t 0 c 0 0 C (pow_pos 53) (lit< tt) (sym (zero-mul c))))

-- ---- the difference ±a / c - ±b / c
no_less : (a b : ℕ) (x : Bool) → (x ≡ true → a ≡ b) → ltb a b || (x && true) ≡ true → a ≤ b
no_less a b x f h = go (ltb a b) x refl f h
  where
    go : (l x : Bool) → ltb a b ≡ l → (x ≡ true → a ≡ b) → l || (x && true) ≡ true → a ≤ b
    go true x p f h = omega (arith, ltb-true a b p)
    go false true p f h = omega (arith, f refl)
    go false false p f h = absurd (true≢false (sym h))

both_zero : (a b : ℕ) → eqb a b && eqb a 0 ≡ true → a + b ≡ 0
both_zero a b h = go (eqb a b) (eqb a 0) refl refl h
  where
    go : (x y : Bool) → eqb a b ≡ x → eqb a 0 ≡ y → x && y ≡ true → a + b ≡ 0
    go true true p q h = omega (arith, eqb-true a b p, eqb-true a 0 q)
    go true false p q h = absurd (true≢false (sym h))
    go false y p q h = absurd (true≢false (sym h))

-- of two sizes with the same sign, by which is the larger
module _ (a b c : ℕ) (C : 0 < c) where
  abbrev plus : Bool → Float
  plus x = cond x (round binary64 true (b - a) c) (round binary64 false (a - b) c)

  abbrev minus : Bool → Float
  minus x = cond x (round binary64 false (b - a) c) (round binary64 (ltb b a) (a - b) c)

  plus-up : b ≤ a → (x : Bool) → ltb a b ≡ x → Leans false (plus x)
  plus-up h true p = absurd (omega (arith, ltb-true a b p))
  plus-up h false p = round-leans false (a - b) c

  plus-down : a ≤ b → (x : Bool) → ltb a b ≡ x → Leans true (plus x)
  plus-down h true p = round-leans true (b - a) c
  plus-down h false p = round-zero true false (a - b) c C (omega arith)

  minus-up : a ≤ b → (x : Bool) → ltb a b ≡ x → Leans false (minus x)
  minus-up h true p = round-leans false (b - a) c
  minus-up h false p = round-zero false (ltb b a) (a - b) c C (omega arith)

  minus-down : b ≤ a → (x : Bool) → ltb a b ≡ x → Leans true (minus x)
  minus-down h true p = absurd (omega (arith, ltb-true a b p))
  minus-down h false p = go (ltb b a) refl
    where
      go : (y : Bool) → ltb b a ≡ y → Leans true (round binary64 y (a - b) c)
      go true q = round-leans true (a - b) c
      go false q = round-zero true false (a - b) c C (omega (arith, ltb-false b a q))

up-sum : (s t : Bool) (a b c : ℕ) → 0 < c → below t b s a || level t b s a ≡ true → Leans false (sum binary64 s a (not t) b c)
unfolding sum
up-sum false true a b c C h = round-leans false (a + b) c
up-sum false false a b c C h = plus-up a b c C (no_less b a (eqb b a) (eqb-true b a) h) (ltb a b) refl
up-sum true true a b c C h = minus-up a b c C (no_less a b (eqb b a) (λ q. sym (eqb-true b a q)) h) (ltb a b) refl
up-sum true false a b c C h = round-zero false true (a + b) c C (omega (arith, both_zero b a h))

down-sum : (s t : Bool) (a b c : ℕ) → 0 < c → below s a t b || level s a t b ≡ true → Leans true (sum binary64 s a (not t) b c)
unfolding sum
down-sum false true a b c C h = round-zero true false (a + b) c C (both_zero a b h)
down-sum false false a b c C h = plus-down a b c C (no_less a b (eqb a b) (eqb-true a b) h) (ltb a b) refl
down-sum true true a b c C h = minus-down a b c C (no_less b a (eqb a b) (λ q. sym (eqb-true a b q)) h) (ltb a b) refl
down-sum true false a b c C h = round-leans true (a + b) c

pub difference-up : (x m : Float) → finite m ≡ true → le m x ≡ true → Leans false (x ⊖ m)
unfolding sub add neg le lt eq
difference-up x nan f h = absurd (true≢false (sym f))
difference-up x (inf t) f h = absurd (true≢false (sym f))
difference-up nan (fin t n d) f h = absurd (true≢false (sym h))
difference-up (inf true) (fin t n d) f h = absurd (true≢false (sym h))
difference-up (inf false) (fin t n d) f h = wide
difference-up (fin s a e) (fin t n d) f h = up-sum s t (a * up e * down d) (n * up d * down e) (down e * down d) (mul-pos (down_pos e) (down_pos d)) h

pub difference-down : (x m : Float) → finite m ≡ true → le x m ≡ true → Leans true (x ⊖ m)
unfolding sub add neg le lt eq
difference-down x nan f h = absurd (true≢false (sym f))
difference-down x (inf t) f h = absurd (true≢false (sym f))
difference-down nan (fin t n d) f h = absurd (true≢false (sym h))
difference-down (inf true) (fin t n d) f h = wide
difference-down (inf false) (fin t n d) f h = absurd (true≢false (sym h))
difference-down (fin s a e) (fin t n d) f h = down-sum s t (a * up e * down d) (n * up d * down e) (down e * down d) (mul-pos (down_pos e) (down_pos d)) h

-- ---- the difference of any two, one of them finite, is a number
pub difference-number : (x m : Float) → finite m ≡ true → is_nan x ≡ false → is_nan (x ⊖ m) ≡ false
unfolding sub add neg
difference-number x nan f h = absurd (true≢false (sym f))
difference-number x (inf t) f h = absurd (true≢false (sym f))
difference-number nan (fin t n d) f h = unfold is_nan in absurd (true≢false h)
difference-number (inf s) (fin t n d) f h = unfold is_nan in refl
difference-number (fin s a e) (fin t n d) f h = sum_number binary64 s (a * up e * down d) (not t) (n * up d * down e) (down e * down d)

-- every number leans one way
pub some-way : (x : Float) → is_nan x ≡ false → (s : Bool) × Leans s x
unfolding is_nan
some-way nan h = absurd (true≢false h)
some-way (inf s) h = (s, wide)
some-way (fin s m e) h = (s, part m e)

-- ---- the quotient by a value above zero
over-pos : (n : ℕ) (k e : ℤ) → 0 < n → 0 < n * up k * down e
over-pos n k e h = mul-pos (mul-pos h (up_pos k)) (down_pos e)

not_none : (n : ℕ) → 0 < n → n ≡ 0 → ⊥
not_none n h e = omega arith

none_of : (u d : ℕ) → 0 * u * d ≡ 0
none_of u d = rw (zero-mul u) (zero-mul d)

quotient_by : (s : Bool) (x : Float) (n : ℕ) (k : ℤ) → 0 < n → Leans s x → Leans s (x ⊘ fin false n k)
unfolding div
quotient_by true x n k N wide = wide
quotient_by true x n k N (part m e) = rw (ne_eqb n 0 (not_none n N)) (round-leans true (m * up e * down k) (n * up k * down e))
quotient_by true x n k N (nothing t e) = rw (ne_eqb n 0 (not_none n N)) (round-zero true _ _ (n * up k * down e) (over-pos n k e N) (none_of (up e) (down k)))
quotient_by false x n k N wide = wide
quotient_by false x n k N (part m e) = rw (ne_eqb n 0 (not_none n N)) (round-leans false (m * up e * down k) (n * up k * down e))
quotient_by false x n k N (nothing t e) = rw (ne_eqb n 0 (not_none n N)) (round-zero false _ _ (n * up k * down e) (over-pos n k e N) (none_of (up e) (down k)))

pub quotient-leans : (s : Bool) (x r : Float) → T (positive r) → Leans s x → Leans s (x ⊘ r)
quotient-leans s x nan p l = absurd p
quotient-leans s x (inf t) p l = absurd p
quotient-leans s x (fin true n k) p l = absurd p
quotient-leans s x (fin false n k) p l = quotient_by s x n k (ltb→lt 0 n p) l

-- ---- what leans up is not below 0, and the other way round
pub leans-neg : {s : Bool} {x : Float} → Leans s x → Leans (not s) (neg x)
unfolding neg
leans-neg wide = wide
leans-neg (part m e) = part m e
leans-neg (nothing t e) = nothing (not t) e

pub up-not-below : (x : Float) → Leans false x → lt x plus_zero ≡ false
unfolding lt of_bits
up-not-below x wide = refl
up-not-below x (part m e) = le-ltb (m * up e * 1) (0 * down e) (omega (arith, zero-mul (down e)))
up-not-below x (nothing true e) = le-ltb 0 (0 * up e * 1 + 0 * down e) (omega (arith, zero-mul (down e), zero-mul (up e)))
up-not-below x (nothing false e) = le-ltb (0 * up e * 1) (0 * down e) (omega (arith, zero-mul (down e)))
