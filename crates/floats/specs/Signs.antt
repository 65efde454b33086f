-- Signs and sizes of binary64 values, and the total order of those that are no NaN.
-- A value is lib.Ieee's: `nan`, `inf s` or `fin s m e`, negative where s is true. Definitions only. Assumes nothing.
use Rattle.std.specs.Prelude.{Bool, false, not, ◌&&◌, ◌||◌, cond, Float}
use Rattle.std.specs.Float.{nan, inf, fin}
use Rattle.std.specs.Float.Ieee.{neg, lt, eq, is_nan}

-- whether the sign is minus, at -0 too; the one NaN has no sign, and counts as plus
unfoldable pub minus : Float → Bool
minus nan = false
minus (inf s) = s
minus (fin s m e) = s

-- |x|
unfoldable pub abs_of : Float → Float
abs_of nan = nan
abs_of (inf s) = inf false
abs_of (fin s m e) = fin false m e

-- |x| with the sign of y
abbrev pub copysign_of : Float → Float → Float
copysign_of x y = cond (minus y) (neg (abs_of x)) (abs_of x)

-- Rust's f64::max: the larger, and where one is a NaN the other
abbrev pub max_of : Float → Float → Float
max_of x y = cond (lt x y || is_nan x) y x

-- x comes before y in the order of f64::total_cmp, neither being a NaN: by value, and -0 before +0
abbrev pub before : Float → Float → Bool
before x y = lt x y || (eq x y && (minus x && not (minus y)))
