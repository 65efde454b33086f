-- e ^ x as a list of float steps, for every x. Numbers are given by their bit patterns, x ⊕ y is x + y rounded once (floats' Words).
-- Definitions only. Assumes nothing.
--
-- Method: reduction by ln 2, then Taylor's polynomial.
--   1. k is the whole number nearest to x / ln 2. t is x / ln 2 + (1.5 * 2 ^ 52 + 2046): its last 12 digits are k + 2046.
--      Where k is below -1146 the result is +0, where it is above 1034 +infinity. In between step 4 rounds to these where it has to.
--   2. r + c = x - k ln 2, |r| ≤ 0.347. ln 2 comes in two parts, the first of 40 digits, so that k times it is exact; c is what the rounding of r lost.
--   3. e ^ r = 1 + r + r² (1/2! + r/3! + .. + r¹¹/13!). y = 1 + r, rounded; what it lost goes with the small terms.
--   4. e ^ x = 2 ^ k e ^ r, in two factors, so that a result below the normal range is rounded once.
-- Values: e ^ ±0 = 1, e ^ +infinity = +infinity, e ^ -infinity = +0, e ^ NaN = NaN. +infinity above 709.782712893384, +0 below -745.1332191019412.
-- Largest error found: 0.710 units in the last place where the result is normal, 0.803 where it is subnormal (measure/elementary/README.md). The constants are derived by measure/elementary/constants.py.
use Rattle.std.specs.Prelude.{ℕ, ◌-◌, ◌/◌, ◌%◌, cond, List, [], ◌∷◌, map, to_bits, Float}
use Rattle.std.specs.Float.{binary64}
use Rattle.std.specs.Float.Ieee.{lt}
use Rattle.floats.specs.Words.{◌⊕◌, ◌⊖◌, ◌⊗◌, ◌‼◌, float, one, plus_zero}
use Rattle.elementary.specs.Patterns.{two_to, plus_infinity}
use Rattle.elementary.specs.Horner.{horner}

-- ln 2 in two parts: its first 40 digits, and the rest rounded
abbrev pub ln_two : List Float
ln_two =
    map float
    (0x3fe62e42fefa2000 ∷ 0x3d69ef35793c7673 ∷ [])

-- 1/13!, 1/12!, .., 1/2!, rounded
abbrev pub exp_table : List Float
exp_table =
    map float
    (0x3de6124613a86d09 ∷ 0x3e21eed8eff8d898 ∷ 0x3e5ae64567f544e4 ∷ 0x3e927e4fb7789f5c ∷ 0x3ec71de3a556c734 ∷ 0x3efa01a01a01a01a ∷
    0x3f2a01a01a01a01a ∷ 0x3f56c16c16c16c17 ∷ 0x3f81111111111111 ∷ 0x3fa5555555555555 ∷ 0x3fc5555555555555 ∷ 0x3fe0000000000000 ∷ [])

-- 1 / ln 2, and what is added to it so that t's last digits are k + 2046
abbrev pub per_ln_two : Float
per_ln_two = float 0x3ff71547652b82fe

abbrev pub shift : Float
shift = float 0x43380000000007fe

-- t at k = -1146 and at k = 1034
abbrev pub least : Float
least = float 0x4338000000000384

abbrev pub greatest : Float
greatest = float 0x4338000000000c08

-- Steps 2 and 3.
abbrev pub exp_reduced : Float → Float → Float
exp_reduced x k =
    let hi = x ⊖ k ⊗ ln_two ‼ 0 in
    let lo = k ⊗ ln_two ‼ 1 in
    let r = hi ⊖ lo in
    let c = hi ⊖ r ⊖ lo in
    let y = one ⊕ r in
    y ⊕ (r ⊖ (y ⊖ one) ⊕ (r ⊗ r ⊗ horner exp_table r ⊕ c))

-- Step 4: y times 2 ^ (j - 2046), for j up to 4094.
abbrev pub scaled : Float → ℕ → Float
scaled y j = y ⊗ two_to (j / 2) ⊗ two_to (j - j / 2)

-- e ^ x
unfoldable pub exp_of : Float → Float
exp_of x =
    let t = x ⊗ per_ln_two ⊕ shift in
    cond (lt t least) plus_zero
    (cond (lt greatest t) plus_infinity (scaled (exp_reduced x (t ⊖ shift)) (to_bits binary64 t % 4096)))
