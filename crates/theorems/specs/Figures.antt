-- What a layout's figures may show (document 02, W-213). Four figures of an accepted exact call are passed on: the kept eigenvalues, their count, the sweeps, and whether the
-- sweeps ended. They stand here as the columns alone give them and as a call has them; the laws, as types, say that these are one, so that two calls of one layout pass on the
-- same however their residuals differ. proofs/Figures.antt proves them. Nothing is said of time, and nothing of refused calls. Definitions only. Assumes nothing.
use Rattle.std.specs.Prelude.{ℕ, ◌<◌, ◌≡◌, ◌⊎◌, Bool, true, not, ◌&&◌, List, length, Float, Result, Ok, Err}
use Rattle.std.specs.Float.{binary64}
use Rattle.std.specs.Float.Ieee.{to_bits}
use Rattle.design.specs.Inverse.{inverse_of}
use Rattle.projection.specs.Projection.{mam_of}
use Rattle.eigen.specs.Spectrum.{spectrum_of, kept_numbers}
use Rattle.eigen.specs.declared.Numbers.{Numbers}
use Rattle.eigen.specs.declared.SpectrumError.{SpectrumError}
use Rattle.outcome.specs.Refusals.{passes}
use Rattle.outcome.specs.declared.Outcome.{Outcome}
use Rattle.theorems.specs.Document.{left_coupled, kept_of, exact_due, coupling_was_left, integral_ended}
use Rattle.theorems.specs.Sheets.{Sheet, outcome_of}

-- what is passed on: the kept eigenvalues, falling; how many; the sweeps; and the sweep half of settled, that no index of the QL step had a coupling left after its turn
pub record Figures : Type 0 where
  pub eigenvalues : List Float
  pub kept : ℕ
  pub sweeps : ℕ
  pub settled_sweeps : Bool

-- how many numbers a spectrum keeps, and its sweeps; 0 where it is refused
abbrev pub count_in : Result Numbers SpectrumError → ℕ
count_in (Err why) = 0
count_in (Ok s) = s.count

abbrev pub sweeps_in : Result Numbers SpectrumError → ℕ
sweeps_in (Err why) = 0
sweeps_in (Ok s) = s.work.sweeps

-- OF A LAYOUT: x is the run of k columns of n rows, and no residual comes in
abbrev pub figures_of : List Float → ℕ → ℕ → Figures
figures_of x n k =
    let inverse = inverse_of x n k in
    record {
      eigenvalues = kept_numbers x inverse n k;
      kept = count_in (spectrum_of x inverse n k);
      sweeps = sweeps_in (spectrum_of x inverse n k);
      settled_sweeps = not (left_coupled n (mam_of x inverse n k));
    }

-- of a result, with the two of the four that it has no field for
abbrev pub figures_in : List Float → Bool → Outcome → Figures
figures_in eigenvalues ended o = record { eigenvalues = eigenvalues; kept = o.kept; sweeps = o.work.sweeps; settled_sweeps = ended }

-- OF A CALL: its result's, with the eigenvalues that its exact path works with and the sweep half of its mark
abbrev pub passed_on : Sheet → Figures
passed_on s =
    figures_in (kept_of s.residuals s.columns s.count s.choice s.matrix_room s.part_room)
    (not (coupling_was_left s.residuals s.columns s.count s.choice s.matrix_room s.part_room)) (outcome_of s)

-- the call is accepted, exact (chosen, or due by default) and of three rows or more; one that fell back to path 3 or 4 was exact too
pub record AcceptedExact (s : Sheet) : Type 0 where
  pub accepted : passes (outcome_of s).refusal ≡ true
  pub due : exact_due s.residuals s.columns s.count s.choice s.matrix_room s.part_room ≡ true

-- two calls with the same columns, alternative, choice and room lengths: the residuals may differ
pub record OneLayout (s s' : Sheet) : Type 0 where
  pub columns : s.columns ≡ s'.columns
  pub count : s.count ≡ s'.count
  pub alternative : s.alternative ≡ s'.alternative
  pub choice : s.choice ≡ s'.choice
  pub matrix_room : s.matrix_room ≡ s'.matrix_room
  pub part_room : s.part_room ≡ s'.part_room

-- ---- the laws
-- A LINE TELLS which calls these are: path 2 answered, or it fell back
abbrev pub ExactTold : Type 0
ExactTold =
    (s : Sheet)
    → (AcceptedExact s → ((outcome_of s).path ≡ 2) ⊎ ((outcome_of s).fallback ≡ true))
    × (((outcome_of s).path ≡ 2) ⊎ ((outcome_of s).fallback ≡ true) → AcceptedExact s)

-- THE FIGURES of a call are those of its layout, and settled is their sweep half and that the integral ended, where one was needed
abbrev pub FiguresShown : Type 0
FiguresShown =
    (s : Sheet) → AcceptedExact s
    → (passed_on s ≡ figures_of s.columns (length s.residuals) s.count)
    × ((outcome_of s).settled ≡ ((figures_of s.columns (length s.residuals) s.count).settled_sweeps && integral_ended s.residuals s.columns s.count s.choice s.matrix_room s.part_room))

-- with fewer than 2,000 bisections settled is the sweep half by itself, so that a line tells it
abbrev pub SweepHalfTold : Type 0
SweepHalfTold =
    (s : Sheet) → AcceptedExact s → (outcome_of s).work.bisections < 2000 → (outcome_of s).settled ≡ (figures_of s.columns (length s.residuals) s.count).settled_sweeps

-- the eigenvalues are the ones that are counted
abbrev pub FiguresCounted : Type 0
FiguresCounted = (x : List Float) (n k : ℕ) → (figures_of x n k).kept ≡ length (figures_of x n k).eigenvalues

-- TWO CALLS of one layout have the same number of rows
abbrev pub SameRows : Type 0
SameRows = (s s' : Sheet) → OneLayout s s' → AcceptedExact s → AcceptedExact s' → length s.residuals ≡ length s'.residuals

-- so they pass on the same, all four figures
abbrev pub SameFigures : Type 0
SameFigures = (s s' : Sheet) → OneLayout s s' → AcceptedExact s → AcceptedExact s' → passed_on s ≡ passed_on s'

-- settled is the same too with fewer than 2,000 bisections each
abbrev pub SameMark : Type 0
SameMark =
    (s s' : Sheet) → OneLayout s s' → AcceptedExact s → AcceptedExact s' → (outcome_of s).work.bisections < 2000 → (outcome_of s').work.bisections < 2000
    → (outcome_of s).settled ≡ (outcome_of s').settled

-- and they have one result, every field, where their statistics are equal in bits
abbrev pub SameResult : Type 0
SameResult =
    (s s' : Sheet) → OneLayout s s' → AcceptedExact s → AcceptedExact s'
    → to_bits binary64 (outcome_of s).statistic ≡ to_bits binary64 (outcome_of s').statistic → outcome_of s ≡ outcome_of s'

-- both in particular where path 2 answered
abbrev pub SameOnPathTwo : Type 0
SameOnPathTwo =
    (s s' : Sheet) → OneLayout s s' → (outcome_of s).path ≡ 2 → (outcome_of s').path ≡ 2
    → (passed_on s ≡ passed_on s') × (to_bits binary64 (outcome_of s).statistic ≡ to_bits binary64 (outcome_of s').statistic → outcome_of s ≡ outcome_of s')
