-- How the integral ended. After k turns a stage is open with k bisections, or settled with a small error sum, or refused; so an integral of fewer than the most bisections has
-- a small final sum. And what an estimate says of its sum: that of the last stage where the weights have both signs, else yes. Assumes nothing.
use mathlib.Core.Path.{◌≡◌, refl, sym, ap, ◌∙◌, subst}
use mathlib.Core.Bool.{Bool, true, false, ◌&&◌, cond}
use mathlib.Core.List.{List}
use Prim.Native.Nat.{ℕ, zero, suc, ◌<◌}
use native.Mathlib.Numerals.{add-one}
use native.Mathlib.Omega.{arith}
use lib.Ieee.{Float, le}
use lib.Ieee.Scale.{finite}
use Rattle.floats.specs.Sums.{sum_run}
use Rattle.floats.specs.declared.tally.Tally.{Tally}
use Rattle.weights.specs.Weights.{weights_of, Signs, none, above, below, mixed, signs_of}
use Rattle.weights.specs.Range.{low_end, high_end}
use Rattle.imhof.specs.declared.Part.{Part}
use Rattle.imhof.specs.declared.Standing.{Standing}
use Rattle.imhof.specs.declared.Standing.TheVariants.{Open, Settled, Refused}
use Rattle.imhof.specs.declared.Integral.{Integral}
use Rattle.imhof.specs.Quadrature.{Quadrature, broken}
use Rattle.std.specs.Prelude.{Ok, Err}
use Rattle.imhof.specs.declared.Estimate.{Estimate}
use Rattle.imhof.specs.Integrand.{integrand_of}
use Rattle.imhof.specs.Rule.{gk15_of}
use Rattle.imhof.specs.Parts.{most_bisections, errors_of, finite_part, looked_at, Stage, stage, tolerance, next_stage, stage_after}
use Rattle.imhof.specs.Imhof.{small_sum, quadrature_of, last_stage, last_stage_by, exact_by, outcome_by, imhof_of}
use Rattle.imhof.proofs.StageLaws.{finite_halves, split, first-open, first-broken, stage-next}
use Rattle.imhof.proofs.Probability.{no_value, refused-value, same-value}

-- how a stage stands after k turns
abbrev Stands : Standing → ℕ → List Part → Tally → Type 0
Stands Open k ps t = t.bisections ≡ k
Stands Settled k ps t = le (sum_run (errors_of ps)) tolerance ≡ true
Stands Refused k ps t = Unit {0}

abbrev After : ℕ → Stage → Type 0
After k s = Stands s.standing k s.parts s.tally

one-turn : (f : Float → Float) (k : ℕ) (ps : List Part) (t : Tally) (now : Standing) → Stands now k ps t → After (suc k) (next_stage f (stage ps t now))
unfolding next_stage
one-turn f k ps t Settled h = h
one-turn f k ps t Refused h = tt
one-turn f k ps t Open h = go (le (sum_run (errors_of ps)) tolerance) refl
  where
    either : (fine : Bool) → After (suc k) (cond fine (split f ps t) (stage ps t Refused))
    either true = omega arith
    either false = tt

    go : (small : Bool) → le (sum_run (errors_of ps)) tolerance ≡ small → After (suc k) (looked_at small f ps t)
    go true e = e
    go false e = either (finite_halves f ps t)

after-turns : (f : Float → Float) (a b : Float) (k : ℕ) → After k (stage_after k f a b)
after-turns f a b zero = go (finite_part (gk15_of f a b)) refl
  where
    go : (fine : Bool) → finite_part (gk15_of f a b) ≡ fine → After 0 (stage_after 0 f a b)
    go true e = subst (After 0) (sym (first-open f a b e)) refl
    go false e = subst (After 0) (sym (first-broken f a b e)) tt
after-turns f a b (suc k) =
    subst (After (suc k)) (sym (stage-next f a b k) ∙ ap (λ n. stage_after n f a b) (add-one k))
    (let s = stage_after k f a b in one-turn f k s.parts s.tally s.standing (after-turns f a b k))

-- ---- few bisections

broken-sum : {i : Integral} → ◌≡◌ {A = Quadrature} broken (Ok i) → ⊥
broken-sum q = let z : ◌≡◌ {A = ℕ} 0 1 = cc in omega arith

same_sum : {i j : Integral} → ◌≡◌ {A = Quadrature} (Ok i) (Ok j) → i ≡ j
same_sum q = cc

few : (k : ℕ) (s : Stage) → After k s → (i : Integral) → quadrature_of s ≡ Ok i → i.tally.bisections < k → small_sum i ≡ true
few k s = go s.parts s.tally s.standing
  where
    go : (ps : List Part) (t : Tally) (now : Standing) → Stands now k ps t → (i : Integral) → quadrature_of (stage ps t now) ≡ Ok i → i.tally.bisections < k → small_sum i ≡ true
    go ps t Open h i q l = let z : t.bisections ≡ i.tally.bisections = ap (λ j. j.tally.bisections) (same_sum q) in absurd (omega arith)
    go ps t Settled h i q l = subst (λ j. small_sum j ≡ true) (same_sum q) h
    go ps t Refused h i q l = absurd (broken-sum q)

-- the integral between any two ends
pub few-turns : (f : Float → Float) (a b : Float) (k : ℕ) (i : Integral) → quadrature_of (stage_after k f a b) ≡ Ok i → i.tally.bisections < k → small_sum i ≡ true
few-turns f a b k = few k (stage_after k f a b) (after-turns f a b k)

-- FEW BISECTIONS: an integral that is a sum, of fewer than the most bisections, has a final error sum of at most the tolerance
pub few-bisections : (ws : List Float) (i : Integral) → quadrature_of (last_stage ws) ≡ Ok i → i.tally.bisections < most_bisections → small_sum i ≡ true
few-bisections ws i q l = go (finite (low_end ws) && finite (high_end ws)) q
  where
    go : (fine : Bool) → quadrature_of (last_stage_by fine ws) ≡ Ok i → small_sum i ≡ true
    go true q = few-turns (integrand_of ws) (low_end ws) (high_end ws) most_bisections i q l
    go false q = absurd (broken-sum q)

-- ---- what an estimate says of its error sum

-- an integral was needed: whether the last stage's error sum is at most 5e-12
pub small-of-integral : (eigenvalues : List Float) (d : Float) (e : Estimate) → signs_of (weights_of eigenvalues d) ≡ mixed → (imhof_of eigenvalues d).answer ≡ Ok e
    → e.small ≡ le (sum_run (errors_of (last_stage (weights_of eigenvalues d)).parts)) tolerance
unfolding imhof_of
small-of-integral es d e m q = last (last_stage (weights_of es d)) (subst (λ s. (outcome_by s (weights_of es d)).answer ≡ Ok e) m q)
  where
    go : (ps : List Part) (t : Tally) (now : Standing) → exact_by (quadrature_of (stage ps t now)) ≡ Ok e → e.small ≡ le (sum_run (errors_of ps)) tolerance
    go ps t Open q = ap (λ d. d.small) (sym (same-value q))
    go ps t Settled q = ap (λ d. d.small) (sym (same-value q))
    go ps t Refused q = absurd (refused-value q)

    last : (s : Stage) → exact_by (quadrature_of s) ≡ Ok e → e.small ≡ le (sum_run (errors_of s.parts)) tolerance
    last s q = go s.parts s.tally s.standing q

-- no integral was needed: yes
pub small-of-certain : (eigenvalues : List Float) (d : Float) (e : Estimate) → (signs_of (weights_of eigenvalues d) ≡ mixed → ⊥) → (imhof_of eigenvalues d).answer ≡ Ok e → e.small ≡ true
unfolding imhof_of
small-of-certain es d e m q = go (signs_of (weights_of es d)) m (weights_of es d) q
  where
    go : (s : Signs) → (s ≡ mixed → ⊥) → (ws : List Float) → (outcome_by s ws).answer ≡ Ok e → e.small ≡ true
    go none h ws q = absurd (no_value q)
    go above h ws q = ap (λ d. d.small) (sym (same-value q))
    go below h ws q = ap (λ d. d.small) (sym (same-value q))
    go mixed h ws q = absurd (h refl)

-- so an estimate of fewer than the most bisections has a small error sum, whether an integral was needed or not
pub few-small : (eigenvalues : List Float) (d : Float) (e : Estimate) → (imhof_of eigenvalues d).answer ≡ Ok e → e.tally.bisections < most_bisections → e.small ≡ true
unfolding imhof_of
few-small es d e q l = go (signs_of (weights_of es d)) (weights_of es d) q
  where
    by : (found : Quadrature) → ((i : Integral) → found ≡ Ok i → i.tally.bisections < most_bisections → small_sum i ≡ true) → exact_by found ≡ Ok e → e.small ≡ true
    by (Ok i) k q = let z = same-value q in ap (λ d. d.small) (sym z) ∙ k i refl (subst (λ n. n < most_bisections) (ap (λ d. d.tally.bisections) (sym z)) l)
    by (Err x) k q = absurd (refused-value q)

    go : (s : Signs) (ws : List Float) → (outcome_by s ws).answer ≡ Ok e → e.small ≡ true
    go none ws q = absurd (no_value q)
    go above ws q = ap (λ d. d.small) (sym (same-value q))
    go below ws q = ap (λ d. d.small) (sym (same-value q))
    go mixed ws q = by (quadrature_of (last_stage ws)) (few-bisections ws) q
