-- The laws of `sqrt_of` and `hypot_of` that callers cite: what is no NaN, what is never negative, what is finite. Assumes nothing.
-- Each root ends in `units`, which gives a number with the sign that it is handed.
use Rattle.std.proofs.Common.{◌≡◌, ℕ, zero, suc, ◌+◌, ◌*◌, ◌/◌, ◌^◌, ◌<◌, ◌≤◌, Bool, true, false, cond, T, ltb, sym, refl, ap, ◌∙◌, true≢false, zero-lt-suc, add_comm, mul-pos, arith, lit<, lt→ltb, pow_pos}
use mathlib.Core.Bool.{false≢true}
use lib.Ieee.{Float, nan, inf, fin, binary64, up, down, odd, units, fits, is_nan, of_bits, to_bits}
use lib.Ieee.Scale.{finite}
use lib.Ieee.Positive.{positive, positive-finite, positive_of_value, value_pos}
use Rattle.floats.specs.Signs.{minus}
use Rattle.roots.specs.Root.{root_of, sqrt_of}
use Rattle.roots.specs.Patterns.{units_of}
use Rattle.roots.specs.Hypot.{in_units, hypot_of}
use Rattle.std.specs.Float.{float_is_infinite}
use Rattle.roots.specs.Nearest.{Holds}
use Rattle.roots.proofs.Ladder.{below_top, own_value, holds}
use Rattle.roots.proofs.Rounding.{root_of-is}
use Rattle.roots.proofs.Nearest.{root-is-nearest}

-- v is a number with the sign s; a number with no minus
abbrev pub Signed : Bool → Float → Type 0
Signed s v = (is_nan v ≡ false) × (minus v ≡ s)

abbrev pub Plus : Float → Type 0
Plus v = Signed false v

units-plus : (q k : ℕ) → Plus (units binary64 false q k)
unfolding units is_nan minus
units-plus q k = go (ltb (q * 2 ^ k) (2 ^ 2098)) (odd 54 false q k 1074) (of-odd q)
  where
    of-odd : (q : ℕ) → Plus (odd 54 false q k 1074)
    of-odd zero = unfold odd in (refl, refl)
    of-odd (suc q) = unfold odd in (refl, refl)

    go : (b : Bool) (v : Float) → Plus v → Plus (cond b v (inf false))
    go true v h = h
    go false v h = (refl, refl)

-- ---- the root of what is not negative is not negative
root-plus : (n : ℕ) → Plus (root_of n)
root-plus n = rw (root_of-is n) (units-plus _ _)

pub sqrt-plus : (x : Float) → Plus x → Plus (sqrt_of x)
unfolding sqrt_of is_nan minus
sqrt-plus nan h = h
sqrt-plus (inf true) h = absurd (true≢false h.1)
sqrt-plus (inf false) h = h
sqrt-plus (fin s zero e) h = h
sqrt-plus (fin true (suc m) e) h = absurd (true≢false h.1)
sqrt-plus (fin false (suc m) e) h = root-plus (suc m * up e * 2 ^ 1074 / down e * 2 ^ 1074)

of_positive : (x : Float) → T (fits binary64 x) → T (positive x) → Holds x (units_of (to_bits binary64 x))
unfolding minus
of_positive nan F p = absurd p
of_positive (inf s) F p = absurd p
of_positive (fin true m e) F p = absurd p
of_positive (fin false m e) F p = (F, own_value (fin false m e) F (below_top (fin false m e) F tt refl))

-- that of what is finite and above zero is finite and above zero: 0 would be no nearer than the smallest value
pub sqrt-positive : (x : Float) → T (fits binary64 x) → T (positive x) → T (positive (sqrt_of x))
sqrt-positive x F p =
    let b = to_bits binary64 x in
    let h : Holds x (units_of b) = of_positive x F p in
    let a = value_pos x (units_of b) (2 ^ 1074) p (pow_pos 1074) h.1 in
    let N = root-is-nearest x (units_of b) h a in
    positive_of_value (sqrt_of x) N.0 (2 ^ 1074) N.1.holds.1 (some (units_of b * 2 ^ 1074) N.0 (mul-pos a (pow_pos 1074)) (N.1.above (of_bits binary64 1) 1 (holds 1 (lit< tt))))
  where
    some : (n R : ℕ) → 0 < n → (R < 1 → 4 * n ≤ (R + 1) * (R + 1)) → 0 < R
    some n zero l h = absurd (omega (arith, h (lit< tt)))
    some n (suc R) l h = zero-lt-suc R

pub sqrt-finite : (x : Float) → T (fits binary64 x) → T (finite x) → minus x ≡ false → T (finite (sqrt_of x))
unfolding minus
sqrt-finite nan F f m = absurd f
sqrt-finite (inf s) F f m = absurd f
sqrt-finite (fin s zero e) F f m = unfold sqrt_of in tt
sqrt-finite (fin true (suc k) e) F f m = absurd (true≢false m)
sqrt-finite (fin false (suc k) e) F f m = positive-finite (sqrt_of (fin false (suc k) e)) (sqrt-positive (fin false (suc k) e) F (lt→ltb 0 (suc k) (zero-lt-suc k)))

-- ---- hypot of numbers is a number, never negative and never -0
pub hypot-number : (x y : Float) → is_nan x ≡ false → is_nan y ≡ false → Plus (hypot_of x y)
unfolding hypot_of is_nan minus
hypot-number nan y h k = absurd (true≢false h)
hypot-number (inf s) y h k = (refl, refl)
hypot-number (fin s m e) nan h k = absurd (true≢false k)
hypot-number (fin s m e) (inf t) h k = (refl, refl)
hypot-number (fin s m e) (fin t n d) h k = root-plus (in_units m e * in_units m e + in_units n d * in_units n d)

-- ---- an infinity wins over all, and else a NaN
pub hypot-symmetric : (x y : Float) → hypot_of x y ≡ hypot_of y x
unfolding hypot_of
hypot-symmetric nan nan = refl
hypot-symmetric nan (inf t) = refl
hypot-symmetric nan (fin t n d) = refl
hypot-symmetric (inf s) nan = refl
hypot-symmetric (inf s) (inf t) = refl
hypot-symmetric (inf s) (fin t n d) = refl
hypot-symmetric (fin s m e) nan = refl
hypot-symmetric (fin s m e) (inf t) = refl
hypot-symmetric (fin s m e) (fin t n d) = ap root_of (add_comm (in_units m e * in_units m e) (in_units n d * in_units n d))

pub hypot-infinite : (x y : Float) → float_is_infinite x ≡ true → hypot_of x y ≡ inf false
unfolding hypot_of float_is_infinite
hypot-infinite nan y h = absurd (false≢true h)
hypot-infinite (inf s) y h = refl
hypot-infinite (fin s m e) y h = absurd (false≢true h)

pub hypot-nan : (y : Float) → float_is_infinite y ≡ false → hypot_of nan y ≡ nan
unfolding hypot_of float_is_infinite
hypot-nan nan h = refl
hypot-nan (inf t) h = absurd (true≢false h)
hypot-nan (fin t n d) h = refl

-- ---- so it is never negative and never -0, whatever x and y are
pub hypot-plus : (x y : Float) → minus (hypot_of x y) ≡ false
unfolding hypot_of minus
hypot-plus nan nan = refl
hypot-plus nan (inf t) = refl
hypot-plus nan (fin t n d) = refl
hypot-plus (inf s) y = refl
hypot-plus (fin s m e) nan = refl
hypot-plus (fin s m e) (inf t) = refl
hypot-plus (fin s m e) (fin t n d) = (root-plus (in_units m e * in_units m e + in_units n d * in_units n d)).1

-- ---- two outcomes that a promise allows are one
pub sqrt-one : (x r s : Float) → r ≡ sqrt_of x → s ≡ sqrt_of x → r ≡ s
sqrt-one x r s h k = h ∙ sym k

pub hypot-one : (x y r s : Float) → r ≡ hypot_of x y → s ≡ hypot_of x y → r ≡ s
hypot-one x y r s h k = h ∙ sym k
