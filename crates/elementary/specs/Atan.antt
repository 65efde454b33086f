-- The arc tangent as a list of float steps, for every x. Numbers are given by their bit patterns, x ⊕ y is x + y rounded once (floats' Words).
-- Definitions only. Assumes nothing.
--
-- Method:
--   1. a is x without its sign.
--   2. Where a ⊗ a is below the reach, 4000000, a is near a point of the table that the arc tangent shares with ln (1 + y) (Near).
--   3. Else atan a = pi/2 + atan t with t = -1 / a. pi/2 comes in two parts, which are added from the smallest up.
--   4. The sign of x is put back.
-- Values: atan ±0 = ±0, atan ±infinity = ±pi/2 rounded, NaN at NaN.
-- Largest error found: 0.750 units in the last place (measure/elementary/README.md). The constants are derived by measure/elementary/constants.py and table.py.
use Rattle.std.specs.Prelude.{cond, List, [], ◌∷◌, map, Float}
use Rattle.std.specs.Float.Ieee.{lt, neg}
use Rattle.floats.specs.Words.{◌⊕◌, ◌⊘◌, ◌‼◌, float, one, square_of}
use Rattle.floats.specs.Signs.{minus}
use Rattle.elementary.specs.Near.{reach, angle_rest, angle_by}
use Rattle.elementary.specs.Points.{points}

-- pi/2 rounded, and what that lost
abbrev pub half_pi : List Float
half_pi =
    map float
    (0x3ff921fb54442d18 ∷ 0x3c91a62633145c07 ∷ [])

-- Step 3.
unfoldable pub angle_far : Float → Float
angle_far a = let t = neg one ⊘ a in half_pi ‼ 0 ⊕ (angle_rest t ⊕ half_pi ‼ 1 ⊕ t)

-- Steps 2 and 3, by the table ps; a is not below 0.
unfoldable pub atan_size : List Float → Float → Float
atan_size ps a = cond (lt (square_of a) reach) (angle_by ps a) (angle_far a)

-- Steps 1 and 4.
unfoldable pub atan_by : List Float → Float → Float
atan_by ps x = cond (minus x) (neg (atan_size ps (neg x))) (atan_size ps x)

-- atan x
unfoldable pub atan_of : Float → Float
atan_of x = atan_by points x
