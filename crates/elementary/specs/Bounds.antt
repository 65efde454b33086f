-- What is proved of the normal tails (proofs/Bounds.antt). A value is lib.Ieee's: `nan`, `inf s` or `fin s m e`, negative where s is true.
-- Definitions only. Assumes nothing.
use Rattle.std.specs.Prelude.{◌≡◌, true, false, ◌||◌, T, is_nan, Float}
use Rattle.std.specs.Float.{nan, binary64}
use Rattle.std.specs.Float.Ieee.{fits, lt, le}
use Rattle.std.specs.Float.Ieee.Scale.{finite}
use Rattle.floats.specs.Words.{plus_zero, one}
use Rattle.elementary.specs.Tails.{lower_tail, upper_tail}
use Rattle.elementary.specs.Patterns.{half}
use Rattle.elementary.specs.declared.NormalLaw.{NormalLaw}

-- t is a number from lo to hi
pub record Within (lo hi t : Float) : Type 0 where
  pub number : is_nan t ≡ false
  pub from : le lo t ≡ true
  pub to : le t hi ≡ true

-- The mean is finite, the variance finite, above 0 and a binary64 value.
pub record Proper (law : NormalLaw) : Type 0 where
  pub mean : finite law.mean ≡ true
  pub variance : finite law.variance ≡ true
  pub above : lt plus_zero law.variance ≡ true
  pub held : T (fits binary64 law.variance)

-- Of a proper law both tails at a point that is no NaN lie in 0 .. 1.
abbrev pub TailsWithinOne : Type 0
TailsWithinOne = (law : NormalLaw) (x : Float) → Proper law → is_nan x ≡ false → Within plus_zero one (lower_tail law x) × Within plus_zero one (upper_tail law x)

-- The upper tail at or above the mean and the lower tail at or below it lie in 0 .. 1/2.
abbrev pub UpperWithinHalf : Type 0
UpperWithinHalf = (law : NormalLaw) (x : Float) → Proper law → le law.mean x ≡ true → Within plus_zero half (upper_tail law x)

abbrev pub LowerWithinHalf : Type 0
LowerWithinHalf = (law : NormalLaw) (x : Float) → Proper law → le x law.mean ≡ true → Within plus_zero half (lower_tail law x)

-- A NaN in the law or for the point gives NaN.
abbrev pub NanGivesNan : Type 0
NanGivesNan =
    (law : NormalLaw) (x : Float) → is_nan law.mean || (is_nan law.variance || is_nan x) ≡ true → (lower_tail law x ≡ nan) × (upper_tail law x ≡ nan)
