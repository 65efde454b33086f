-- Adaptive quadrature: a list of parts, of which the one with the greatest error is bisected until the summed error is small enough.
-- Definitions only. Assumes nothing.
use Rattle.std.specs.Prelude.{ℕ, ◌+◌, ◌-◌, Bool, true, false, ◌&&◌, cond, List, [], ◌∷◌, ◌++◌, map, length, get_or, take, set, Float}
use Rattle.std.specs.Float.{nan}
use Rattle.std.specs.Float.Ieee.{le}
use Rattle.std.specs.Float.Ieee.Scale.{finite}
use Rattle.floats.specs.Words.{◌‼◌, float}
use Rattle.floats.specs.Signs.{before}
use Rattle.floats.specs.Sums.{sum_run}
use Rattle.floats.specs.Turns.{turns}
use Rattle.floats.specs.Count.{no_work, one_bisection, evaluated}
use Rattle.floats.specs.declared.tally.Tally.{Tally}
use Rattle.imhof.specs.declared.Part.{Part}
use Rattle.imhof.specs.declared.Standing.{Standing}
use Rattle.imhof.specs.declared.Standing.TheVariants.{Open, Settled, Refused}
use Rattle.imhof.specs.Rule.{gk15_of, middle_of, rule_size}

-- how many bisections there are at most, and so how many parts: src/lib.rt's MOST_BISECTIONS and MOST_PARTS
abbrev pub most_bisections : ℕ
most_bisections = 2000

abbrev pub most_parts : ℕ
most_parts = most_bisections + 1

-- part t of a list; there is none past the end
abbrev pub part_at : List Part → ℕ → Part
part_at ps t = get_or ps t (record { lo = nan; hi = nan; value = nan; error = nan })

-- the parts' values, and their error estimates
abbrev pub values_of : List Part → List Float
values_of ps = map (λ p. p.value) ps

abbrev pub errors_of : List Part → List Float
errors_of ps = map (λ p. p.error) ps

-- the place of the greatest number of a run, the last among equals
unfoldable pub last_greatest : List Float → ℕ
unfolding turns
last_greatest es = turns (length es) (λ i w. cond (before (es ‼ i) (es ‼ w)) w i) 0

abbrev pub worst_of : List Part → ℕ
worst_of ps = last_greatest (errors_of ps)

-- part w taken out, the last part in its place
abbrev pub without : ℕ → List Part → List Part
without w ps = set (take (length ps - 1) ps) w (part_at ps (length ps - 1))

-- the left and the right half of a part
abbrev pub left_half : (Float → Float) → Part → Part
left_half f p = gk15_of f p.lo (middle_of p.lo p.hi)

abbrev pub right_half : (Float → Float) → Part → Part
right_half f p = gk15_of f (middle_of p.lo p.hi) p.hi

-- part w taken out, its two halves at the end
abbrev pub bisected_at : (Float → Float) → ℕ → List Part → List Part
bisected_at f w ps = without w ps ++ (left_half f (part_at ps w) ∷ right_half f (part_at ps w) ∷ [])

-- a part's value and error estimate are finite
abbrev pub finite_part : Part → Bool
finite_part p = finite p.value && finite p.error

-- The parts so far, the work so far, and whether another bisection may follow (Open), the errors are small enough (Settled), or a
-- value or error estimate was not finite (Refused: the parts are those before it came up).
pub record Stage : Type 0 where
  pub parts : List Part
  pub tally : Tally
  pub standing : Standing

abbrev pub stage : List Part → Tally → Standing → Stage
stage ps t s = record { parts = ps; tally = t; standing = s }

-- 5e-12
abbrev pub tolerance : Float
tolerance = float 0x3d95fd7fe1796495

-- one gk15 is an evaluation of the integrand at each of its points
abbrev pub one_rule : Tally → Tally
one_rule t = evaluated rule_size t

-- the one part from a to b
abbrev pub first_stage : (Float → Float) → Float → Float → Stage
first_stage f a b = cond (finite_part (gk15_of f a b)) (stage (gk15_of f a b ∷ []) (one_rule no_work) Open) (stage [] no_work Refused)

-- part w bisected, where both halves are finite
abbrev pub bisect_at : (Float → Float) → ℕ → List Part → Tally → Stage
bisect_at f w ps t =
    cond (finite_part (left_half f (part_at ps w)) && finite_part (right_half f (part_at ps w)))
    (stage (bisected_at f w ps) (one_rule (one_rule (one_bisection t))) Open)
    (stage ps t Refused)

-- small: whether the summed error is at most the tolerance
abbrev pub looked_at : Bool → (Float → Float) → List Part → Tally → Stage
looked_at true f ps t = stage ps t Settled
looked_at false f ps t = bisect_at f (worst_of ps) ps t

-- what one turn makes of a stage
abbrev pub turn_by : Standing → (Float → Float) → Stage → Stage
turn_by Open f s = looked_at (le (sum_run (errors_of s.parts)) tolerance) f s.parts s.tally
turn_by Settled f s = s
turn_by Refused f s = s

unfoldable pub next_stage : (Float → Float) → Stage → Stage
next_stage f s = turn_by s.standing f s

-- the stage after k turns, from the one part of the whole range on
unfoldable pub stage_after : ℕ → (Float → Float) → Float → Float → Stage
unfolding turns
stage_after k f a b = turns k (λ t. next_stage f) (first_stage f a b)
