-- How long the table is, and that its place is asked of no NaN: a number below another is none, and stays none where a finite one is added. Assumes nothing.
use Rattle.std.proofs.Common.{◌≡◌, Bool, true, false, not, T, length, refl, true≢false}
use lib.Ieee.{Float, nan, inf, fin, lt, is_nan, of_bits}
use Rattle.floats.specs.Words.{◌⊕◌}
use Rattle.floats.proofs.Numbers.{add-number}
use Rattle.elementary.specs.Near.{least, reach}
use Rattle.elementary.specs.Points.{points}

-- three numbers a row
pub length-points : length points ≡ 384
unfolding points
length-points = refl

below-number : (x y : Float) → T (lt x y) → is_nan x ≡ false
unfolding lt is_nan
below-number nan y h = absurd h
below-number (inf s) y h = refl
below-number (fin s m e) y h = refl

no_nan : (b : Bool) → b ≡ false → T (not b)
no_nan false h = tt
no_nan true h = absurd (true≢false h)

-- so the pattern of y ⊕ 2 ^ -10 may be asked for
pub may-be-asked : (y : Float) → T (lt y reach) → T (not (is_nan (y ⊕ least)))
may-be-asked y h = no_nan _ (add-number y least (below-number y reach h) (unfold of_bits in refl))
