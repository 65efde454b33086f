-- The tails of the normal law as lists of float steps, for every law and every point. Numbers are given by their bit patterns, x ⊕ y is x + y rounded once
-- (floats' Words). Definitions only. Assumes nothing.
--
-- Method: the Mills ratio by one polynomial (Shepherd and Laframboise's form, Math. Comp. 36, 1981), clamped.
--   1. z = (x - mean) / √variance.
--   2. For z ≥ 0 the tail beyond z is e ^ (-z²/2) M(z), M(z) = P(u) / (z + 3/2), u = (z - 5) / (z + 5), which runs from -1 to 1.
--      P has degree 23: Chebyshev's fit of (z + 3/2) e ^ (z²/2) times the tail, off by at most 1.2e-17.
--   3. The tail is clamped to 0 .. 1/2. At z = +infinity u is no number, and neither is the product: it counts as 0.
--   4. For z < 0 the tail beyond z is 1 less the tail beyond -z. At a NaN it is NaN.
--   5. The upper tail at x is the tail beyond z, the lower tail the tail beyond -z.
-- Values: NaN where the mean, the variance or the point is a NaN, and where the variance is below 0. At a variance of 0 z is an infinity, so the tails are 0 and 1, and a NaN
-- where x is the mean. At a variance of +infinity z is 0, and a NaN where x - mean is infinite. An infinity less the same infinity is a NaN.
-- Error: at most 3e-16, and 4e-15 of the tail itself to z = 10; the two tails at a point add up to 1 within 1.2e-16
-- (measure/elementary/measure.sh). The constants are derived by measure/elementary/constants.py.
use Rattle.std.specs.Prelude.{cond, List, [], ◌∷◌, map, Float}
use Rattle.std.specs.Float.Ieee.{lt, ne, neg}
use Rattle.floats.specs.Words.{◌⊕◌, ◌⊖◌, ◌⊗◌, ◌⊘◌, float, one, plus_zero}
use Rattle.roots.specs.Root.{sqrt_of}
use Rattle.elementary.specs.Patterns.{half}
use Rattle.elementary.specs.Horner.{horner}
use Rattle.elementary.specs.Exp.{exp_of}
use Rattle.elementary.specs.declared.NormalLaw.{NormalLaw}

-- P's coefficients, from u²³ down
abbrev pub mills_table : List Float
mills_table =
    map float
    (0xbdf933da4a10795d ∷ 0xbdf7b6a488c4b1b6 ∷ 0x3e319fbbbda0ac33 ∷ 0x3e329c5711991828 ∷ 0xbe5e43608b7f806e ∷ 0xbe60df4e882ca9df ∷
    0x3e87be3694c80aa6 ∷ 0x3e864a60a8c1bdf1 ∷ 0xbeb3e5e054505012 ∷ 0xbe9b5b96c1727f70 ∷ 0x3ee1ab1b4435032f ∷ 0xbedb92c1a36a59d2 ∷
    0xbf0bda958a447d74 ∷ 0x3f23f05087f089ed ∷ 0x3f13a47834b8b4ba ∷ 0xbf59a9869381a758 ∷ 0x3f75d79d2346a03a ∷ 0xbf85dca2064e4050 ∷
    0x3f8a469f31f08795 ∷ 0xbf644306b3e06cda ∷ 0xbf9f2b8e0dbc6014 ∷ 0x3fb6ccf2f523ec7c ∷ 0xbfc4e664cd3b3be5 ∷ 0x3fdfff992a5c4295 ∷ [])

-- 3/2 and 5
abbrev pub three_halves : Float
three_halves = float 0x3ff8000000000000

abbrev pub five : Float
five = float 0x4014000000000000

-- Step 2: M(z), for z ≥ 0.
abbrev pub mills_of : Float → Float
mills_of z = horner mills_table ((z ⊖ five) ⊘ (z ⊕ five)) ⊘ (z ⊕ three_halves)

-- Step 3.
abbrev pub clamped : Float → Float
clamped t = cond (lt plus_zero t) (cond (lt t half) t half) plus_zero

-- The tail beyond a z that is not below 0.
unfoldable pub half_tail : Float → Float
half_tail z = clamped (exp_of (neg half ⊗ (z ⊗ z)) ⊗ mills_of z)

-- Step 4.
abbrev pub tail_beyond : Float → Float
tail_beyond z = cond (ne z z) z (cond (lt z plus_zero) (one ⊖ half_tail (neg z)) (half_tail z))

-- Step 1.
abbrev pub standardized : NormalLaw → Float → Float
standardized law x = (x ⊖ law.mean) ⊘ sqrt_of law.variance

-- P(X > x) and P(X ≤ x)
unfoldable pub upper_tail : NormalLaw → Float → Float
upper_tail law x = tail_beyond (standardized law x)

unfoldable pub lower_tail : NormalLaw → Float → Float
lower_tail law x = tail_beyond (neg (standardized law x))
