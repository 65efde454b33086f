-- The arc tangent and ln (1 + y) near a point of the table (Points), as lists of float steps. Numbers are given by their bit patterns, x ⊕ y is x + y rounded once (floats' Words).
-- Definitions only. Assumes nothing.
--
-- Method: both functions find their row by one number y ≥ 0, which is the square of the tangent for the one and the argument itself for the other.
--   1. The rows are the quarters of the 32 octaves of y + 2 ^ -10, from 2 ^ -10 on: the exponent field of the pattern of y ⊕ 2 ^ -10 says which octave, counted from that of 2 ^ -10, and the
--      two digits below it which quarter. The table ends where the sum is 2 ^ 22, and 4000000 is the reach: beyond that end the count would begin at row 0 again.
--   2. atan a = atan p + atan t with t = (a - p) / (1 + p a), |t| ≤ 1/32. atan t = t + t z A(z), z = t², A a polynomial of degree 3 by Horner's rule.
--   3. ln (1 + y) = ln (1 + q) + ln (1 + r) with q = p ⊗ p and r = (y - q) / (1 + q). With s = r / (2 + r), |s| ≤ 0.056: ln (1 + r) = r - s (r - z L(z)), z = s², L a
--      polynomial of degree 3.
-- In the first four rows p is 0: t is a itself, r is y, and adding the angle +0 or the logarithm -0 changes no bit, at -0 neither.
use Rattle.std.specs.Prelude.{ℕ, ◌+◌, ◌/◌, ◌%◌, ◌^◌, List, [], ◌∷◌, map, to_bits, Float}
use Rattle.std.specs.Float.{binary64}
use Rattle.floats.specs.Words.{◌⊕◌, ◌⊖◌, ◌⊗◌, ◌⊘◌, ◌‼◌, float, one, two}
use Rattle.elementary.specs.Horner.{horner}

-- A's coefficients, near 1/9, -1/7, 1/5 and -1/3, and L's, near 2/9, 2/7, 2/5 and 2/3
abbrev pub angle_table : List Float
angle_table =
    map float
    (0x3fbc6626fd2196aa ∷ 0xbfc24923a9cfb254 ∷ 0x3fc99999998df9bf ∷ 0xbfd555555555554a ∷ [])

abbrev pub log_table : List Float
log_table =
    map float
    (0x3fcc96f2e6282959 ∷ 0x3fd2491b5172c727 ∷ 0x3fd999999b12bfb8 ∷ 0x3fe55555555550a5 ∷ [])

-- 4000000 and 2 ^ -10
abbrev pub reach : Float
reach = float 0x414e848000000000

abbrev pub least : Float
least = float 0x3f50000000000000

-- Step 1: the row that serves y, from 0 to below the reach. The number added is 2 ^ 64 less the pattern of 2 ^ -10.
unfoldable pub place_of : Float → ℕ
place_of y = (to_bits binary64 (y ⊕ least) + 0xc0b0000000000000) % 2 ^ 64 / 2 ^ 50 % 128

-- Step 2: what is to be added to t, and the angle of a near p, whose angle is g.
unfoldable pub angle_rest : Float → Float
angle_rest t = let z = t ⊗ t in t ⊗ (z ⊗ horner angle_table z)

unfoldable pub angle_near : Float → Float → Float → Float
angle_near a p g = let t = (a ⊖ p) ⊘ (one ⊕ p ⊗ a) in g ⊕ (t ⊕ angle_rest t)

-- Step 3: ln (1 + y) for a y near p², g being ln (1 + p ⊗ p).
unfoldable pub log_near : Float → Float → Float → Float
log_near y p g =
    let q = p ⊗ p in
    let r = (y ⊖ q) ⊘ (one ⊕ q) in
    let s = r ⊘ (two ⊕ r) in
    let z = s ⊗ s in
    g ⊕ (r ⊖ s ⊗ (r ⊖ z ⊗ horner log_table z))

-- Both, by a table ps whose row i has its point at place i, its angle at place 128 + i and its logarithm at place 256 + i.
abbrev pub angle_by : List Float → Float → Float
angle_by ps a = angle_near a (ps ‼ place_of (a ⊗ a)) (ps ‼ (128 + place_of (a ⊗ a)))

abbrev pub log_by : List Float → Float → Float
log_by ps y = log_near y (ps ‼ place_of y) (ps ‼ (256 + place_of y))
