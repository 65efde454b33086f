-- The quadrature over a list of part records, turn by turn: what a look finds, what a turn decides, and what it does to the list.
-- Definitions only. Assumes nothing.
use Rattle.std.specs.Prelude.{ℕ, suc, ◌-◌, Bool, true, false, ◌&&◌, cond, List, leb, set, Float, Ok}
use Rattle.std.specs.Float.Ieee.{le}
use Rattle.floats.specs.Words.{◌⊕◌, plus_zero, minus_zero}
use Rattle.floats.specs.Signs.{before}
use Rattle.floats.specs.Turns.{turns}
use Rattle.floats.specs.Count.{no_work, one_bisection}
use Rattle.floats.specs.declared.tally.Tally.{Tally}
use Rattle.imhof.specs.declared.Integral.{Integral}
use Rattle.imhof.specs.declared.Part.{Part}
use Rattle.imhof.specs.Quadrature.{Quadrature, broken}
use Rattle.imhof.specs.Rule.{gk15_of}
use Rattle.imhof.specs.Parts.{most_parts, part_at, finite_part, left_half, right_half, tolerance, one_rule}
use Rattle.records.specs.declared.look.Look.{Look}

abbrev pub zero_part : Part
zero_part = record { lo = plus_zero; hi = plus_zero; value = plus_zero; error = plus_zero }

-- a look before the first record, and with record i counted
abbrev pub unseen_of : Part → Look
unseen_of p = record { value = minus_zero; error = minus_zero; worst = 0; greatest = p }

abbrev pub noted_of : Look → ℕ → Part → Look
noted_of l i p =
    record {
      value = l.value ⊕ p.value;
      error = l.error ⊕ p.error;
      worst = cond (before p.error l.greatest.error) l.worst i;
      greatest = cond (before p.error l.greatest.error) l.greatest p;
    }

-- a look at the first n records
unfoldable pub look_of : List Part → ℕ → Look
unfolding turns
look_of ps n = turns n (λ i l. noted_of l i (part_at ps i)) (unseen_of (part_at ps 0))

-- what they add up to, after so much work
abbrev pub sums_of : Look → Tally → Integral
sums_of l t = record { value = l.value; error = l.error; tally = t }

-- of n records, the last takes the place of record w, then two new ones go on the end
abbrev pub split_of : List Part → ℕ → ℕ → Part → Part → List Part
split_of ps n w left right = set (set (set ps w (part_at ps (n - 1))) (n - 1) left) n right

-- how the quadrature stands: it goes on, with the work so far, or it is done, with what it came to
pub data Course : Type 0 where
  going : Tally → Course
  done : Quadrature → Course

-- the course, and the records
pub record Work : Type 0 where
  pub course : Course
  pub records : List Part

abbrev pub work : Course → List Part → Work
work c ps = record { course = c; records = ps }

-- the whole range as one part, finite or not
abbrev pub start_by : Bool → Course
start_by true = going (one_rule no_work)
start_by false = done broken

abbrev pub first_work : (Float → Float) → Float → Float → List Part → Work
first_work f a b ps = work (start_by (finite_part (gk15_of f a b))) (set ps 0 (gk15_of f a b))

-- the two halves of the record of greatest error, where both are finite
abbrev pub halved_by : Bool → (Float → Float) → ℕ → Look → Tally → List Part → Work
halved_by true f n l t ps = work (going (one_rule (one_rule (one_bisection t)))) (split_of ps n l.worst (left_half f l.greatest) (right_half f l.greatest))
halved_by false f n l t ps = work (done broken) ps

-- small: whether the summed error is at most the tolerance
abbrev pub looked_by : Bool → (Float → Float) → ℕ → Look → Tally → List Part → Work
looked_by true f n l t ps = work (done (Ok (sums_of l t))) ps
looked_by false f n l t ps = halved_by (finite_part (left_half f l.greatest) && finite_part (right_half f l.greatest)) f n l t ps

-- full: whether there are as many records as there can be parts
abbrev pub open_by : Bool → (Float → Float) → ℕ → Look → Tally → List Part → Work
open_by true f n l t ps = work (done (Ok (sums_of l t))) ps
open_by false f n l t ps = looked_by (le l.error tolerance) f n l t ps

abbrev pub next_by : Course → (Float → Float) → ℕ → List Part → Work
next_by (going t) f n ps = open_by (leb most_parts n) f n (look_of ps n) t ps
next_by (done q) f n ps = work (done q) ps

-- what the turn over n records makes of the work
unfoldable pub next_work : (Float → Float) → ℕ → Work → Work
next_work f n w = next_by w.course f n w.records

-- the work after k turns: turn t goes over t + 1 records
unfoldable pub work_after : ℕ → (Float → Float) → Float → Float → List Part → Work
unfolding turns
work_after k f a b ps = turns k (λ t w. next_work f (suc t) w) (first_work f a b ps)

-- the integral that a work which is done came to; none where a number was not finite, or while it goes on
abbrev pub found_by : Course → Quadrature
found_by (going t) = broken
found_by (done q) = q

abbrev pub found_of : Work → Quadrature
found_of w = found_by w.course
