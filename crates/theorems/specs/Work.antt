-- The work of a call, as a type: document 01's "Evaluations are 15 plus 30 for each bisection, 0 when no integral was needed", at most 2,000 bisections, and the sweeps.
-- proofs/Work.antt proves it of every call, refused or not. Definitions only. Assumes nothing.
use Rattle.std.specs.Prelude.{◌+◌, ◌*◌, ◌≤◌, ◌≡◌, Bool, ◌&&◌, cond, length}
use Rattle.weights.specs.Weights.{signs_of}
use Rattle.outcome.specs.Refusals.{passes}
use Rattle.theorems.specs.Document.{both_signs, exact_due, weights_left}
use Rattle.theorems.specs.Sheets.{Sheet, outcome_of}
use Rattle.theorems.specs.Figures.{figures_of}

-- the call is accepted and went the exact way, whether or not it fell back
abbrev pub went_exact : Sheet → Bool
went_exact s = passes (outcome_of s).refusal && exact_due s.residuals s.columns s.count s.choice s.matrix_room s.part_room

-- and its weights have both signs, so that an integral was needed
abbrev pub integral_needed : Sheet → Bool
integral_needed s = went_exact s && both_signs (signs_of (weights_left s.residuals s.columns s.count s.choice s.matrix_room s.part_room))

-- THE WORK: evaluations and bisections are the integral's, 0 where none was needed; sweeps are those of the columns' spectrum, 0 where it was not worked out
abbrev pub WorkCounted : Type 0
WorkCounted =
    (s : Sheet)
    → ((outcome_of s).work.evaluations ≡ cond (integral_needed s) (15 + 30 * (outcome_of s).work.bisections) 0)
    × ((outcome_of s).work.bisections ≤ cond (integral_needed s) 2000 0)
    × ((outcome_of s).work.sweeps ≡ cond (went_exact s) (figures_of s.columns (length s.residuals) s.count).sweeps 0)
