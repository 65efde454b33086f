-- Eigenvalues in falling order, cut, and kept: R's dwtest keeps the n - k largest that exceed 1e-10. Definitions only. Assumes nothing.
use Rattle.std.specs.Prelude.{ℕ, zero, suc, ◌-◌, cond, List, [], ◌∷◌, take, Float}
use Rattle.std.specs.Float.Ieee.{lt}
use Rattle.floats.specs.Words.{float, ◌‼◌}
use Rattle.floats.specs.Signs.{before}

-- x put into a falling list, before the first number that comes before it
unfoldable pub insert : Float → List Float → List Float
insert x [] = x ∷ []
insert x (y ∷ r) = cond (before y x) (x ∷ (y ∷ r)) (y ∷ insert x r)

-- the first n numbers of d in falling order, by the total order of f64::total_cmp
unfoldable pub falling : List Float → ℕ → List Float
unfolding insert
falling d zero = []
falling d (suc n) = insert (d ‼ n) (falling d n)

-- 1e-10
abbrev pub kept_above : Float
kept_above = float 0x3ddb7cdfd9d7bdbb

-- those above it
unfoldable pub large : List Float → List Float
large [] = []
large (x ∷ r) = cond (lt kept_above x) (x ∷ large r) (large r)

-- what is kept of the first n numbers of d, in a design of k columns
unfoldable pub kept_of : List Float → ℕ → ℕ → List Float
unfolding falling large
kept_of d n k = large (take (n - k) (falling d n))
