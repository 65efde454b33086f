-- The weights of Imhof's quadratic form, and the signs that need no integral.
-- A run is a list of binary64 values; x ⊖ y is x - y, rounded once (floats' Words). Definitions only. Assumes nothing.
use Rattle.std.specs.Prelude.{Bool, true, false, cond, List, [], ◌∷◌, Float}
use Rattle.std.specs.List.{list_all}
use Rattle.std.specs.Float.Ieee.{lt, eq}
use Rattle.floats.specs.Words.{◌⊖◌, plus_zero}

-- each eigenvalue less the statistic, in order, the zeros left out
unfoldable pub weights_of : List Float → Float → List Float
weights_of [] d = []
weights_of (l ∷ ls) d = cond (eq (l ⊖ d) plus_zero) (weights_of ls d) ((l ⊖ d) ∷ weights_of ls d)

-- every weight is above 0; every weight is below 0
abbrev pub all_above : List Float → Bool
all_above ws = list_all (λ w. lt plus_zero w) ws

abbrev pub all_below : List Float → Bool
all_below ws = list_all (λ w. lt w plus_zero) ws

-- what the weights' signs say: there is none, each is above 0, each is below 0, or the integral decides
pub data Signs : Type 0 where
  none above below mixed : Signs

abbrev pub signs_by : Bool → Bool → Signs
signs_by true b = above
signs_by false true = below
signs_by false false = mixed

abbrev pub signs_of : List Float → Signs
signs_of [] = none
signs_of (w ∷ ws) = signs_by (all_above (w ∷ ws)) (all_below (w ∷ ws))
