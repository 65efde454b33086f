-- The work of a call: specs/Work.antt's law. The eigenvalues take sweeps alone, the integral brings bisections and evaluations alone, and paths 1, 3 and 4 add nothing. Assumes nothing.
use mathlib.Core.Path.{◌≡◌, refl, sym, ap, ◌∙◌}
use mathlib.Core.Bool.{Bool, true, false, ◌&&◌, cond, true≢false}
use mathlib.Core.List.{List}
use Prim.Native.Nat.{ℕ, ◌+◌, ◌*◌, ◌≤◌}
use native.Mathlib.Omega.{arith}
use lib.ListN.{length}
use lib.Ieee.{Float}
use Rattle.std.specs.Prelude.{Ok}
use Rattle.floats.specs.declared.tally.Tally.{Tally}
use Rattle.autocorrelation.specs.Statistic.{durbin_watson}
use Rattle.design.specs.Matrix.{Matrix}
use Rattle.design.specs.Inverse.{inverse_of}
use Rattle.eigen.specs.Spectrum.{spectrum_of, kept_numbers}
use Rattle.eigen.specs.declared.Numbers.{Numbers}
use Rattle.weights.specs.Weights.{Signs, none, above, below, mixed, signs_of}
use Rattle.imhof.specs.Imhof.{imhof_of}
use Rattle.imhof.specs.declared.Estimate.{Estimate}
use Rattle.imhof.proofs.Probability.{work-of-integral, no-work}
use Rattle.outcome.specs.Refusals.{passes}
use Rattle.outcome.specs.Result.{together}
use Rattle.outcome.specs.declared.Outcome.{Outcome}
use Rattle.outcome.specs.declared.Leaving.{Leaving}
use Rattle.theorems.specs.Document.{both_signs, exact_due, weights_left}
use Rattle.theorems.specs.Sheets.{Sheet, outcome_of}
use Rattle.theorems.specs.Figures.{sweeps_in}
use Rattle.theorems.specs.Work.{WorkCounted}
use Rattle.theorems.proofs.Accepted.{none-of-both, LeftBy, WorkLeft, every-worked}

module _ (s : Sheet) where
  abbrev e : List Float
  e = s.residuals

  abbrev x : List Float
  x = s.columns

  abbrev n : ℕ
  n = length s.residuals

  abbrev k : ℕ
  k = s.count

  abbrev inverse : Matrix
  inverse = inverse_of x n k

  abbrev kept : List Float
  kept = kept_numbers x inverse n k

  abbrev due : Bool
  due = exact_due e x k s.choice s.matrix_room s.part_room

  abbrev weights : List Float
  weights = weights_left e x k s.choice s.matrix_room s.part_room

  -- of a result, by whether it is accepted
  abbrev Counted : Bool → Tally → Type 0
  Counted passed t =
      (t.evaluations ≡ cond (passed && due && both_signs (signs_of weights)) (15 + 30 * t.bisections) 0)
      × (t.bisections ≤ cond (passed && due && both_signs (signs_of weights)) 2000 0)
      × (t.sweeps ≡ cond (passed && due) (sweeps_in (spectrum_of x inverse n k)) 0)

  -- paths 3 and 4
  by-left : (left : Leaving) → LeftBy e x k s.alternative s.choice s.matrix_room s.part_room left → WorkLeft e x k s.alternative s.choice s.matrix_room s.part_room left → Counted true left.work
  by-left left h w = go due refl
    where
      go : (b : Bool) → due ≡ b → Counted true left.work
      go false u = rw (w.1, w.2, u) (refl, omega arith, w.0 ∙ rw u refl)
      go true u = rw (w.1, w.2, u, none-of-both weights (rw u at (sym h.1 ∙ u))) (refl, omega arith, w.0 ∙ rw u refl)

  -- path 2
  by-integral : (m : Numbers) (q : Estimate) → due ≡ true → spectrum_of x inverse n k ≡ Ok m → (imhof_of kept (durbin_watson e)).answer ≡ Ok q → Counted true (together m.work q.tally)
  by-integral m q u g w = go (both_signs (signs_of weights)) refl
    where
      sweeps : m.work.sweeps ≡ cond due (sweeps_in (spectrum_of x inverse n k)) 0
      sweeps = rw (u, g) refl

      is-mixed : (signs : Signs) → both_signs signs ≡ true → signs ≡ mixed
      is-mixed none h = absurd (true≢false (sym h))
      is-mixed above h = absurd (true≢false (sym h))
      is-mixed below h = absurd (true≢false (sym h))
      is-mixed mixed h = refl

      go : (b : Bool) → both_signs (signs_of weights) ≡ b → Counted true (together m.work q.tally)
      go true h = let worked = work-of-integral kept (durbin_watson e) q (is-mixed (signs_of weights) h) w in (worked.1 ∙ rw (u, h) refl, rw (u, h) worked.2, sweeps)
      go false h =
          let same = (no-work kept (durbin_watson e) q (λ i. true≢false (sym (ap both_signs i) ∙ h)) w).0 in
          (ap (λ (t : Tally). t.evaluations) same ∙ rw (u, h) refl, rw (u, h) (rw same (omega arith)), sweeps)

  counted : Counted (passes (outcome_of s).refusal) (outcome_of s).work
  counted = every-worked e x k s.alternative s.choice s.matrix_room s.part_room (λ (o : Outcome). Counted (passes o.refusal) o.work) (record {
    refused = λ r h. rw h (refl, omega arith, refl);
    short = λ h. rw h (refl, omega arith, refl);
    early = λ left h w. by-left left h w;
    normal = λ left law h w l. by-left left h w;
    exact = λ m q u t g w. by-integral m q u g w;
  })

pub work-counted : WorkCounted
work-counted = counted
