-- The bounds of the normal tails. The one idea: a tail is clamped to 0 .. 1/2 whatever exp gives, so it is enough that the standardized point z is a number, and not below 0 where
-- x is at or beyond the mean. z is a number since x - mean is one and the root of the variance is finite and above 0. Assumes nothing.
use Rattle.std.proofs.Common.{◌≡◌, Bool, true, false, cond, ◌||◌, T, sym, refl, ◌∙◌, true≢false}
use lib.Ieee.{Float, nan, inf, fin, neg, sub, add, div, lt, ne, is_nan}
use lib.Ieee.Positive.{positive}
use Rattle.floats.specs.Words.{◌⊖◌, ◌⊘◌, plus_zero, one}
use Rattle.floats.proofs.SignLaws.{differs}
use Rattle.roots.specs.Root.{sqrt_of}
use Rattle.elementary.specs.Tails.{half_tail, tail_beyond, standardized, lower_tail, upper_tail}
use Rattle.elementary.specs.Patterns.{half}
use Rattle.elementary.specs.Bounds.{Within, Proper, TailsWithinOne, UpperWithinHalf, LowerWithinHalf, NanGivesNan}
use Rattle.elementary.specs.declared.NormalLaw.{NormalLaw}
use Rattle.elementary.proofs.Small.{Small, clamped-small, rest-within, within-half, within-one}
use Rattle.elementary.proofs.Leaning.{Leans, leans-number, leans-neg, some-way, difference-number, difference-up, difference-down, quotient-leans, up-not-below}
use Rattle.elementary.proofs.RootPositive.{root-positive}

-- ---- the tail beyond z
half-small : (z : Float) → Small (half_tail z)
unfolding half_tail
half-small z = clamped-small _

not_itself : (z : Float) → is_nan z ≡ false → ne z z ≡ false
not_itself z h = differs z ∙ h

tail-within-one : (z : Float) → is_nan z ≡ false → Within plus_zero one (tail_beyond z)
tail-within-one z h = rw (not_itself z h) (go (lt z plus_zero))
  where
    go : (b : Bool) → Within plus_zero one (cond b (one ⊖ half_tail (neg z)) (half_tail z))
    go true = rest-within (half_tail (neg z)) (half-small (neg z))
    go false = within-one (half_tail z) (half-small z)

tail-within-half : (z : Float) → Leans false z → Within plus_zero half (tail_beyond z)
tail-within-half z l = rw (not_itself z (leans-number l), up-not-below z l) (within-half (half_tail z) (half-small z))

-- ---- the standardized point
root : (law : NormalLaw) → Proper law → T (positive (sqrt_of law.variance))
root law p = root-positive law.variance p.held p.variance p.above

standard-leans : (law : NormalLaw) (x : Float) → Proper law → (s : Bool) → Leans s (x ⊖ law.mean) → Leans s (standardized law x)
standard-leans law x p s l = quotient-leans s (x ⊖ law.mean) (sqrt_of law.variance) (root law p) l

pub tails-within-one : TailsWithinOne
unfolding lower_tail upper_tail
tails-within-one law x p h =
    let w = some-way (x ⊖ law.mean) (difference-number x law.mean p.mean h) in
    let z = standard-leans law x p w.0 w.1 in
    (tail-within-one (neg (standardized law x)) (leans-number (leans-neg z)), tail-within-one (standardized law x) (leans-number z))

pub upper-within-half : UpperWithinHalf
unfolding upper_tail
upper-within-half law x p h = tail-within-half (standardized law x) (standard-leans law x p false (difference-up x law.mean p.mean h))

pub lower-within-half : LowerWithinHalf
unfolding lower_tail
lower-within-half law x p h = tail-within-half (neg (standardized law x)) (leans-neg (standard-leans law x p true (difference-down x law.mean p.mean h)))

-- ---- a NaN on the way in
is-nan : (x : Float) → is_nan x ≡ true → x ≡ nan
unfolding is_nan
is-nan nan h = refl
is-nan (inf s) h = absurd (true≢false (sym h))
is-nan (fin s m e) h = absurd (true≢false (sym h))

minus-nan : (x : Float) → x ⊖ nan ≡ nan
unfolding sub add neg
minus-nan nan = refl
minus-nan (inf s) = refl
minus-nan (fin s m e) = refl

nan-minus : (m : Float) → nan ⊖ m ≡ nan
unfolding sub add
nan-minus m = refl

pub over-nan : (d : Float) → d ⊘ nan ≡ nan
unfolding div
over-nan nan = refl
over-nan (inf s) = refl
over-nan (fin s m e) = refl

nan-over : (r : Float) → nan ⊘ r ≡ nan
unfolding div
nan-over r = refl

point-nan : (m v x : Float) → is_nan v || is_nan x ≡ true → (x ⊖ m) ⊘ sqrt_of v ≡ nan
unfolding is_nan sqrt_of
point-nan m nan x h = over-nan (x ⊖ m)
point-nan m (inf s) x h = rw (is-nan x h, nan-minus m) (nan-over (sqrt_of (inf s)))
point-nan m (fin s n e) x h = rw (is-nan x h, nan-minus m) (nan-over (sqrt_of (fin s n e)))

standard-nan : (m v x : Float) → is_nan m || (is_nan v || is_nan x) ≡ true → (x ⊖ m) ⊘ sqrt_of v ≡ nan
unfolding is_nan
standard-nan nan v x h = rw (minus-nan x) (nan-over (sqrt_of v))
standard-nan (inf s) v x h = point-nan (inf s) v x h
standard-nan (fin s m e) v x h = point-nan (fin s m e) v x h

pub tail-nan : tail_beyond nan ≡ nan
unfolding ne
tail-nan = refl

pub nan-gives-nan : NanGivesNan
unfolding lower_tail upper_tail neg
nan-gives-nan law x h = rw (standard-nan law.mean law.variance x h) (tail-nan, tail-nan)
