-- ln x and ln (1 + x) as lists of float steps, for every x. Numbers are given by their bit patterns, x ⊕ y is x + y rounded once (floats' Words).
-- Definitions only. Assumes nothing.
--
-- Method: reduction to √½ .. √2, then fdlibm's form of the series in f / (2 + f).
--   1. w = 2 ^ k m with m from √½ to √2. A subnormal w is first multiplied by 2 ^ 54.
--   2. f = m - 1, exact. s = f / (2 + f), so that ln (1 + f) = ln ((1 + s) / (1 - s)) = 2 s + s L(s²), L(z) = 2/3 z + 2/5 z² + 2/7 z³ + ..
--      L by a polynomial of degree 7 fitted on |s| ≤ 0.1716: even powers of z and odd ones apart, each by Horner's rule in z².
--   3. ln (1 + f) = f - (h - s (h + L)), h = f² / 2: f is exact, and the rest is small beside it.
--   4. ln w = k ln 2 + ln (1 + f), with ln 2 in two parts, the first of 40 digits, so that k times it is exact.
-- ln (1 + x): from 0 to below 4000000 by the table that it shares with the arc tangent (Near). From √½ - 1 to 0 steps 2 and 3 with f = x. Else w = 1 + x, rounded; with d what it lost,
-- ln (1 + x) = ln w + d / w.
-- Values: ln ±0 = -infinity, ln +infinity = +infinity, NaN below 0 and at NaN, ln 1 = +0.
--   ln (1 + ±0) = ±0, ln (1 + -1) = -infinity, ln (1 + infinity) = +infinity, NaN below -1 and at NaN.
-- Largest error found: 0.886 units in the last place for ln, and for ln (1 + x) 0.766 from 0 up and 0.884 below 0 (measure/elementary/README.md). The constants are derived by measure/elementary/constants.py and table.py.
use Rattle.std.specs.Prelude.{cond, List, [], ◌∷◌, map, to_bits, Float}
use Rattle.std.specs.Float.{binary64}
use Rattle.std.specs.Float.Ieee.{lt, le, eq, neg}
use Rattle.floats.specs.Words.{◌⊕◌, ◌⊖◌, ◌⊗◌, ◌⊘◌, ◌‼◌, float, one, two, plus_zero}
use Rattle.elementary.specs.Patterns.{half, field_of, raised, digits_of, minus_infinity, no_number}
use Rattle.elementary.specs.Horner.{horner}
use Rattle.elementary.specs.Exp.{ln_two}
use Rattle.elementary.specs.Near.{reach, log_by}
use Rattle.elementary.specs.Points.{points}

-- L's coefficients at z⁶, z⁴, z² and at z⁷, z⁵, z³, z
abbrev pub ln_even : List Float
ln_even =
    map float
    (0x3fc39fe42e9740a7 ∷ 0x3fcc71c62e26208b ∷ 0x3fd99999999952cc ∷ [])

abbrev pub ln_odd : List Float
ln_odd =
    map float
    (0x3fc2b59b713616c9 ∷ 0x3fc7462b58e46ebe ∷ 0x3fd2492492df3ba9 ∷ 0x3fe5555555555558 ∷ [])

-- the smallest normal number, the largest finite one, and 2 ^ 54
abbrev pub least_normal : Float
least_normal = float 0x0010000000000000

abbrev pub largest : Float
largest = float 0x7fefffffffffffff

abbrev pub two_to_54 : Float
two_to_54 = float 0x4350000000000000

-- what an exponent field counts from: 1023, and 1077 after the multiplication by 2 ^ 54
abbrev pub bias : Float
bias = float 0x408ff80000000000

abbrev pub bias_scaled : Float
bias_scaled = float 0x4090d40000000000

-- √½ - 1
abbrev pub f_least : Float
f_least = float 0xbfd2bec333018866

-- Steps 2 and 3: what is to be taken from f, so that ln (1 + f) + g is left.
abbrev pub ln_rest : Float → Float → Float
ln_rest f g =
    let s = f ⊘ (two ⊕ f) in
    let z = s ⊗ s in
    let w = z ⊗ z in
    let h = half ⊗ f ⊗ f in
    h ⊖ (s ⊗ (h ⊕ (w ⊗ horner ln_even w ⊕ z ⊗ horner ln_odd w)) ⊕ g)

-- ln w + c, for a w from the smallest normal number up; n is what w's exponent field counts from.
abbrev pub ln_normal : Float → Float → Float → Float
ln_normal w n c =
    let b = raised (to_bits binary64 w) in
    let k = field_of b ⊖ n in
    let f = digits_of b ⊖ one in
    k ⊗ ln_two ‼ 0 ⊖ (ln_rest f (c ⊕ k ⊗ ln_two ‼ 1) ⊖ f)

-- ln x
unfoldable pub ln_of : Float → Float
ln_of x =
    cond (le least_normal x) (cond (le x largest) (ln_normal x bias plus_zero) x)
    (cond (lt plus_zero x) (ln_normal (x ⊗ two_to_54) bias_scaled plus_zero)
    (cond (eq x plus_zero) minus_infinity no_number))

-- ln (1 + x), by the table ps
unfoldable pub ln1p_by : List Float → Float → Float
ln1p_by ps x =
    let w = one ⊕ x in
    let below = ln_normal w bias ((x ⊖ (w ⊖ one)) ⊘ w) in
    let above = ln_normal w bias ((one ⊖ (w ⊖ x)) ⊘ w) in
    cond (le plus_zero x) (cond (lt x reach) (log_by ps x) (cond (le x largest) above x))
    (cond (lt f_least x) (x ⊖ ln_rest x plus_zero)
    (cond (lt (neg one) x) below
    (cond (eq x (neg one)) minus_infinity no_number)))

-- ln (1 + x)
unfoldable pub ln1p_of : Float → Float
ln1p_of x = ln1p_by points x
