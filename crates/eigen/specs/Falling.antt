-- What is said of the kept eigenvalues: they never rise, each is large, each is finite. Statements only. Assumes nothing.
use Rattle.std.specs.Prelude.{◌≡◌, true, false, List, [], ◌∷◌, T, Float}
use Rattle.std.specs.Float.Ieee.{lt}
use Rattle.std.specs.Float.Ieee.Scale.{finite}
use Rattle.floats.specs.Signs.{before}
use Rattle.eigen.specs.Kept.{kept_above}

-- no number comes before the one after it
unfoldable pub NeverRises : List Float → Type 0
NeverRises [] = Unit {0}
NeverRises (x ∷ []) = Unit {0}
NeverRises (x ∷ (y ∷ r)) = (before x y ≡ false) × NeverRises (y ∷ r)

-- each number is above 1e-10
unfoldable pub AllLarge : List Float → Type 0
AllLarge [] = Unit {0}
AllLarge (x ∷ r) = (lt kept_above x ≡ true) × AllLarge r

-- each number is finite
unfoldable pub AllFinite : List Float → Type 0
AllFinite [] = Unit {0}
AllFinite (x ∷ r) = T (finite x) × AllFinite r
