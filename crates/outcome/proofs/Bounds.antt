-- p by the normal law lies in 0 .. 1. One-sided it is a tail, and those do. Two-sided it is twice an upper tail at a point that is not below the mean, which is at most 1/2. Assumes nothing.
use Rattle.floats.specs.Words.{◌⊕◌, ◌⊖◌}
use Rattle.floats.specs.Signs.{abs_of}
use Rattle.elementary.specs.Tails.{upper_tail}
use Rattle.elementary.proofs.Leaning.{difference-number}
use Rattle.elementary.proofs.Bounds.{tails-within-one, upper-within-half}
use lib.Ieee.{binary64}
use lib.Ieee.Fits.{div-fits, mul-fits}
use Rattle.design.specs.Law.{law_from}
use Rattle.design.proofs.NotBelow.{not-below}
use Rattle.design.proofs.Bounds.{usable, abs-plus, number, twice-within}
use Rattle.outcome.specs.Bounds.{PWithinOne, ColumnsPWithinOne}
use Rattle.outcome.specs.declared.Alternative.TheVariants.{Greater, Less, TwoSided}

pub p-within-one : PWithinOne
p-within-one law d Greater h m v f =
    let u = usable law law h in
    (tails-within-one law d (record { mean = u.1; variance = u.2; above = u.3; held = v }) (number d f)).0
p-within-one law d Less h m v f =
    let u = usable law law h in
    (tails-within-one law d (record { mean = u.1; variance = u.2; above = u.3; held = v }) (number d f)).1
p-within-one law d TwoSided h m v f =
    let u = usable law law h in
    let far = abs-plus (d ⊖ law.mean) (difference-number d law.mean u.1 (number d f)) in
    twice-within (upper_tail law (law.mean ⊕ abs_of (d ⊖ law.mean)))
    (upper-within-half law (law.mean ⊕ abs_of (d ⊖ law.mean)) (record { mean = u.1; variance = u.2; above = u.3; held = v }) (not-below law.mean (abs_of (d ⊖ law.mean)) u.1 m far))

pub columns-p-within-one : ColumnsPWithinOne
unfolding law_from
columns-p-within-one x n k inverse law d a h f =
    let u = usable (law_from x n k inverse) law h in
    rw u.0 (p-within-one (law_from x n k inverse) d a (rw u.0 at h) (div-fits binary64 _ _) (mul-fits binary64 _ _) f)
