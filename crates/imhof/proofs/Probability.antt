-- What an answer of the whole can be. Where a weight is left and nothing was refused the clamped probability lies in [0, 1], so it is no NaN; the evaluations are 15 and 30 more for each
-- bisection, and none where no integral was needed; there is one part more than bisections in the room, at most most_parts. There is no exact value exactly where no weight is left.
-- One idea: the values that are added up are finite, since a part that is not is refused. Assumes nothing.
use mathlib.Core.Path.{◌≡◌, refl, sym, ap, ◌∙◌, subst}
use mathlib.Core.Bool.{Bool, true, false, ◌&&◌, true≢false}
use mathlib.Core.List.{List, [], ◌∷◌}
use Prim.Native.Nat.{ℕ, ◌+◌, ◌*◌, ◌≤◌, ◌<◌}
use native.Mathlib.Omega.{arith}
use lib.ListN.{length, length-map, get_or-map}
use lib.Ieee.{Float, is_nan, of_bits}
use lib.Ieee.Scale.{finite}
use Rattle.floats.specs.Words.{◌‼◌, plus_zero, one}
use Rattle.floats.specs.Sums.{sum_run}
use Rattle.floats.specs.Count.{no_work}
use Rattle.floats.specs.declared.tally.Tally.{Tally}
use Rattle.weights.specs.Weights.{weights_of, all_above, all_below, Signs, none, above, below, mixed, signs_of, signs_by}
use Rattle.weights.specs.Range.{low_end, high_end}
use Rattle.imhof.specs.declared.Part.{Part}
use Rattle.imhof.specs.declared.Standing.{Standing}
use Rattle.imhof.specs.declared.Standing.TheVariants.{Open, Settled, Refused}
use Rattle.imhof.specs.Quadrature.{Quadrature}
use Rattle.std.specs.Prelude.{Result, Ok, Err}
use Rattle.imhof.specs.declared.Estimate.{Estimate}
use Rattle.imhof.specs.declared.ExactError.{ExactError}
use Rattle.imhof.specs.declared.ExactError.TheVariants.{NoWeight, NotFinite}
use Rattle.imhof.specs.Integrand.{integrand_of}
use Rattle.imhof.specs.Rule.{gk15_of}
use Rattle.imhof.specs.Parts.{most_bisections, part_at, values_of, worst_of, left_half, right_half, finite_part, Stage, stage, stage_after}
use Rattle.imhof.specs.Imhof.{quadrature_of, last_stage, last_stage_by, estimate_of, exact_by, outcome_by, imhof_of}
use Rattle.imhof.proofs.StageLaws.{split, finite_halves, length-split}
use Rattle.imhof.proofs.HeldLaws.{first-refused}
use Rattle.imhof.proofs.EveryStage.{All, all-at, all-bisected, every-stage}
use Rattle.imhof.proofs.Tiling.{counted}
use Rattle.imhof.proofs.NoNan.{sum-of-finite, by-pi, Within, clamped-within}

-- ---- every part of the last stage is finite

abbrev FinitePart : Part → Type 0
FinitePart p = finite_part p ≡ true

both_left : (a b : Bool) → a && b ≡ true → a ≡ true
both_left true b h = refl
both_left false b h = absurd (true≢false (sym h))

both_right : (a b : Bool) → a && b ≡ true → b ≡ true
both_right true b h = h
both_right false b h = absurd (true≢false (sym h))

finite-stage : (f : Float → Float) (a b : Float) → All FinitePart (stage_after most_bisections f a b).parts
finite-stage f a b = go (finite_part (gk15_of f a b)) refl
  where
    keeps : (ps : List Part) (t : Tally) → finite_halves f ps t ≡ true → (0 < length ps) × All FinitePart ps → (0 < length (split f ps t).parts) × All FinitePart (split f ps t).parts
    keeps ps t e h = (
      omega (arith, length-split f ps t h.0),
      all-bisected FinitePart f ps h.0 (both_left (finite_part (left_half f (part_at ps (worst_of ps)))) (finite_part (right_half f (part_at ps (worst_of ps)))) e) (both_right (finite_part (left_half f (part_at ps (worst_of ps)))) (finite_part (right_half f (part_at ps (worst_of ps)))) e) h.1,
    )

    go : (fine : Bool) → finite_part (gk15_of f a b) ≡ fine → All FinitePart (stage_after most_bisections f a b).parts
    go true e = (every-stage f (λ ps t. (0 < length ps) × All FinitePart ps) keeps a b e (omega arith, (e, tt)) most_bisections).1
    go false e = subst (λ s. All FinitePart s.parts) (sym (first-refused f a b e)) tt

finite-last : (ws : List Float) → All FinitePart (last_stage ws).parts
finite-last ws = go (finite (low_end ws) && finite (high_end ws))
  where
    go : (b : Bool) → All FinitePart (last_stage_by b ws).parts
    go true = finite-stage (integrand_of ws) (low_end ws) (high_end ws)
    go false = tt

-- so the sum of their values is no NaN
values-number : (ps : List Part) → All FinitePart ps → is_nan (sum_run (values_of ps)) ≡ false
values-number ps h =
    sum-of-finite (length (values_of ps)) (λ t. values_of ps ‼ t)
    (λ t l.
    let i : t < length ps = subst (λ n. t < n) (length-map ps (λ p. p.value)) l in
    ap finite (get_or-map (λ p. p.value) ps t _) ∙ both_left (finite (part_at ps t).value) (finite (part_at ps t).error) (all-at FinitePart ps t i h))

-- ---- the answer

pub no_value : {e : Estimate} → ◌≡◌ {A = Result Estimate ExactError} (Err NoWeight) (Ok e) → ⊥
no_value q = let z : ◌≡◌ {A = ℕ} 0 1 = cc in omega arith

pub refused-value : {e : Estimate} → ◌≡◌ {A = Result Estimate ExactError} (Err NotFinite) (Ok e) → ⊥
refused-value q = let z : ◌≡◌ {A = ℕ} 0 1 = cc in omega arith

pub same-value : {d e : Estimate} → ◌≡◌ {A = Result Estimate ExactError} (Ok d) (Ok e) → d ≡ e
same-value q = cc

-- what an estimate of a number that is no NaN has
number : (x : Float) (t : Tally) (small : Bool) (e : Estimate) → is_nan x ≡ false → ◌≡◌ {A = Result Estimate ExactError} (Ok (estimate_of x t small)) (Ok e) → Within e.probability
number x t small e h q = subst (λ d. Within d.probability) (same-value q) (clamped-within x h)

last_within : (s : Stage) (e : Estimate) → All FinitePart s.parts → exact_by (quadrature_of s) ≡ Ok e → Within e.probability
last_within s e h q = go s.parts s.tally s.standing h q
  where
    go : (ps : List Part) (t : Tally) (now : Standing) → All FinitePart ps → exact_by (quadrature_of (stage ps t now)) ≡ Ok e → Within e.probability
    go ps t Open h q = number _ t _ e (by-pi (sum_run (values_of ps)) (values-number ps h)) q
    go ps t Settled h q = number _ t _ e (by-pi (sum_run (values_of ps)) (values-number ps h)) q
    go ps t Refused h q = absurd (refused-value q)

-- the clamped probability lies in [0, 1]
pub probability-within : (eigenvalues : List Float) (d : Float) (e : Estimate) → (imhof_of eigenvalues d).answer ≡ Ok e → Within e.probability
unfolding imhof_of
probability-within es d e q = go (signs_of (weights_of es d)) (weights_of es d) q
  where
    go : (s : Signs) (ws : List Float) → (outcome_by s ws).answer ≡ Ok e → Within e.probability
    go none ws q = absurd (no_value q)
    go above ws q = number plus_zero no_work true e (unfold is_nan of_bits in refl) q
    go below ws q = number one no_work true e (unfold is_nan of_bits in refl) q
    go mixed ws q = last_within (last_stage ws) e (finite-last ws) q

-- there is no exact value exactly where no weight is left
pub no-weight : (eigenvalues : List Float) (d : Float) → ((imhof_of eigenvalues d).answer ≡ Err NoWeight → weights_of eigenvalues d ≡ []) × (weights_of eigenvalues d ≡ [] → (imhof_of eigenvalues d).answer ≡ Err NoWeight)
unfolding imhof_of
no-weight es d = (go (weights_of es d), λ e. rw e)
  where
    estimated : {e : Estimate} → ◌≡◌ {A = Result Estimate ExactError} (Ok e) (Err NoWeight) → ⊥
    estimated q = let z : ◌≡◌ {A = ℕ} 0 1 = cc in omega arith

    refused : ◌≡◌ {A = Result Estimate ExactError} (Err NotFinite) (Err NoWeight) → ⊥
    refused q = let z : ◌≡◌ {A = ℕ} 0 1 = cc in omega arith

    by : (q : Quadrature) → exact_by q ≡ Err NoWeight → ⊥
    by (Ok i) e = estimated e
    by (Err x) e = refused e

    some : (above below : Bool) (ws : List Float) → (outcome_by (signs_by above below) ws).answer ≡ Err NoWeight → ⊥
    some true b ws e = estimated e
    some false true ws e = estimated e
    some false false ws e = by (quadrature_of (last_stage ws)) e

    go : (ws : List Float) → (outcome_by (signs_of ws) ws).answer ≡ Err NoWeight → ws ≡ []
    go [] e = refl
    go (w ∷ ws) e = absurd (some (all_above (w ∷ ws)) (all_below (w ∷ ws)) (w ∷ ws) e)

-- ---- the work

-- the counts of an answer that took an integral
abbrev pub Worked : Tally → List Part → Type 0
Worked t ps = (length ps ≡ t.bisections + 1) × (t.evaluations ≡ 15 + 30 * t.bisections) × (t.bisections ≤ most_bisections)

stage-worked : (f : Float → Float) (a b : Float) (e : Estimate) → exact_by (quadrature_of (stage_after most_bisections f a b)) ≡ Ok e → Worked e.tally (stage_after most_bisections f a b).parts
stage-worked f a b e q = go (finite_part (gk15_of f a b)) refl
  where
    tallied : (s : Stage) → exact_by (quadrature_of s) ≡ Ok e → s.tally ≡ e.tally
    tallied s q = by s.parts s.tally s.standing q
      where
        by : (ps : List Part) (t : Tally) (now : Standing) → exact_by (quadrature_of (stage ps t now)) ≡ Ok e → t ≡ e.tally
        by ps t Open q = ap (λ d. d.tally) (same-value q)
        by ps t Settled q = ap (λ d. d.tally) (same-value q)
        by ps t Refused q = absurd (refused-value q)

    go : (fine : Bool) → finite_part (gk15_of f a b) ≡ fine → Worked e.tally (stage_after most_bisections f a b).parts
    go true h = subst (λ t. Worked t (stage_after most_bisections f a b).parts) (tallied (stage_after most_bisections f a b) q) (counted f a b h most_bisections)
    go false h = absurd (refused-value (ap (λ s. exact_by (quadrature_of s)) (sym (first-refused f a b h)) ∙ q))

-- an integral was needed: 15 evaluations and 30 more for each of at most most_bisections bisections, and one part more than bisections
pub work-of-integral : (eigenvalues : List Float) (d : Float) (e : Estimate) → signs_of (weights_of eigenvalues d) ≡ mixed → (imhof_of eigenvalues d).answer ≡ Ok e → Worked e.tally (imhof_of eigenvalues d).parts
unfolding imhof_of
work-of-integral es d e m q = go (signs_of (weights_of es d)) m (weights_of es d) q
  where
    last : (b : Bool) (ws : List Float) → exact_by (quadrature_of (last_stage_by b ws)) ≡ Ok e → Worked e.tally (last_stage_by b ws).parts
    last true ws q = stage-worked (integrand_of ws) (low_end ws) (high_end ws) e q
    last false ws q = absurd (refused-value q)

    above-mixed : above ≡ mixed → ⊥
    above-mixed q = let z : ◌≡◌ {A = ℕ} 0 1 = cc in omega arith

    below-mixed : below ≡ mixed → ⊥
    below-mixed q = let z : ◌≡◌ {A = ℕ} 0 1 = cc in omega arith

    go : (s : Signs) → s ≡ mixed → (ws : List Float) → (outcome_by s ws).answer ≡ Ok e → Worked e.tally (outcome_by s ws).parts
    go none h ws q = absurd (no_value q)
    go above h ws q = absurd (above-mixed h)
    go below h ws q = absurd (below-mixed h)
    go mixed h ws q = last (finite (low_end ws) && finite (high_end ws)) ws q

-- no integral was needed: no work, and no part in the room
pub no-work : (eigenvalues : List Float) (d : Float) (e : Estimate) → (signs_of (weights_of eigenvalues d) ≡ mixed → ⊥) → (imhof_of eigenvalues d).answer ≡ Ok e → (e.tally ≡ no_work) × ((imhof_of eigenvalues d).parts ≡ [])
unfolding imhof_of
no-work es d e m q = go (signs_of (weights_of es d)) m (weights_of es d) q
  where
    go : (s : Signs) → (s ≡ mixed → ⊥) → (ws : List Float) → (outcome_by s ws).answer ≡ Ok e → (e.tally ≡ no_work) × ((outcome_by s ws).parts ≡ [])
    go none h ws q = absurd (no_value q)
    go above h ws q = (ap (λ d. d.tally) (sym (same-value q)), refl)
    go below h ws q = (ap (λ d. d.tally) (sym (same-value q)), refl)
    go mixed h ws q = absurd (h refl)
