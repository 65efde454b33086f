-- The sine as a list of float steps, for every x. Numbers are given by their bit patterns, x ⊕ y is x + y rounded once (floats' Words).
-- Definitions only. Assumes nothing.
--
-- Method: reduction by pi/2 (Cody and Waite, four parts), then Taylor's polynomials.
--   1. Beyond 1647099 in size (2 ^ 20 quarter turns) there is no value: NaN. Step 3 is exact to there only.
--   2. k is the whole number nearest to x / (pi/2). t is x 2/pi + 1.5 * 2 ^ 52: its last digits are k's, modulo 4.
--   3. r - c = x - k pi/2, |r| ≤ 0.786. pi/2 comes in four parts, the first three of 33 digits, so that k times each is exact; c is what the roundings of the
--      two differences made r too large by.
--   4. x is k quarter turns and r - c: the sine of r - c for k = 0 modulo 4, its cosine for 1, minus the sine for 2, minus the cosine for 3.
--      sin r = r - r³/3! + .. + r¹⁷/17!, cos r = 1 - r²/2! + .. + r¹⁶/16!, and c goes in by the derivative.
-- Values: sin ±0 = ±0, NaN at ±infinity and NaN.
-- Largest error found: 0.790 units in the last place to 256 in size, 0.810 from there to 1647099 (measure/elementary/README.md). The constants are derived by measure/elementary/constants.py.
use Rattle.std.specs.Prelude.{ℕ, ◌%◌, cond, List, [], ◌∷◌, map, ◌==◌, to_bits, Float}
use Rattle.std.specs.Float.{binary64}
use Rattle.std.specs.Float.Ieee.{lt, neg}
use Rattle.floats.specs.Words.{◌⊕◌, ◌⊖◌, ◌⊗◌, ◌‼◌, float, one}
use Rattle.elementary.specs.Patterns.{half, no_number}
use Rattle.elementary.specs.Horner.{horner}

-- pi/2 in four parts: 33 digits, the next 33, the next 33, the rest rounded
abbrev pub half_pi : List Float
half_pi =
    map float
    (0x3ff921fb54400000 ∷ 0x3dd0b4611a600000 ∷ 0x3ba3198a2e000000 ∷ 0x397b839a252049c1 ∷ [])

-- 1/17!, -1/15!, .., -1/3! and 1/16!, -1/14!, .., 1/4!, rounded
abbrev pub sin_table : List Float
sin_table =
    map float
    (0x3ce952c77030ad4a ∷ 0xbd6ae7f3e733b81f ∷ 0x3de6124613a86d09 ∷ 0xbe5ae64567f544e4 ∷
    0x3ec71de3a556c734 ∷ 0xbf2a01a01a01a01a ∷ 0x3f81111111111111 ∷ 0xbfc5555555555555 ∷ [])

abbrev pub cos_table : List Float
cos_table =
    map float
    (0x3d2ae7f3e733b81f ∷ 0xbda93974a8c07c9d ∷ 0x3e21eed8eff8d898 ∷ 0xbe927e4fb7789f5c ∷
    0x3efa01a01a01a01a ∷ 0xbf56c16c16c16c17 ∷ 0x3fa5555555555555 ∷ [])

-- 2/pi, 1.5 * 2 ^ 52 and 1647099
abbrev pub per_half_pi : Float
per_half_pi = float 0x3fe45f306dc9c883

abbrev pub shift : Float
shift = float 0x4338000000000000

abbrev pub furthest : Float
furthest = float 0x413921fb00000000

-- sin (r - c) and cos (r - c)
abbrev pub sin_kernel : Float → Float → Float
sin_kernel r c = let z = r ⊗ r in r ⊖ (c ⊗ (one ⊖ half ⊗ z) ⊖ r ⊗ z ⊗ horner sin_table z)

abbrev pub cos_kernel : Float → Float → Float
cos_kernel r c =
    let z = r ⊗ r in
    let h = half ⊗ z in
    let w = one ⊖ h in
    w ⊕ (one ⊖ w ⊖ h ⊕ (z ⊗ z ⊗ horner cos_table z ⊕ r ⊗ c))

-- Step 4: the sine of q quarter turns and r - c, for q below 4.
abbrev pub quarter_turns : ℕ → Float → Float → Float
quarter_turns q r c =
    cond (q == 0) (sin_kernel r c)
    (cond (q == 1) (cos_kernel r c)
    (cond (q == 2) (neg (sin_kernel r c))
    (neg (cos_kernel r c))))

-- Steps 2 to 4.
abbrev pub sin_reduced : Float → Float
sin_reduced x =
    let t = x ⊗ per_half_pi ⊕ shift in
    let k = t ⊖ shift in
    let a = x ⊖ k ⊗ half_pi ‼ 0 in
    let b = k ⊗ half_pi ‼ 1 in
    let m = a ⊖ b in
    let d = k ⊗ half_pi ‼ 2 in
    let r = m ⊖ d in
    let c = d ⊖ (m ⊖ r) ⊕ (b ⊖ (a ⊖ m)) ⊕ k ⊗ half_pi ‼ 3 in
    quarter_turns (to_bits binary64 t % 4) r c

-- sin x
unfoldable pub sin_of : Float → Float
sin_of x = cond (lt furthest x) no_number (cond (lt x (neg furthest)) no_number (sin_reduced x))
