-- What one turn makes of an open stage, by what was found; and that a stage that is not open stays. One idea: once a turn changes nothing, no later turn does. Assumes nothing.
use mathlib.Core.Path.{◌≡◌, refl, sym, ap, ◌∙◌, subst}
use mathlib.Core.Logic.{◌⊎◌, inl, inr, ⊎_elim}
use mathlib.Core.Bool.{Bool, true, false, ◌&&◌, cond}
use mathlib.Core.List.{List, [], ◌∷◌}
use Prim.Native.Nat.{ℕ, zero, suc, ◌+◌, ◌-◌, ◌≤◌, ◌<◌}
use native.Mathlib.Nat.{eq-or-lt_of_le}
use native.Mathlib.Numerals.{add-one}
use native.Mathlib.Omega.{arith}
use lib.ListN.{length, length-append, length-set}
use lib.Seq.{length-take-le}
use lib.Ieee.{Float, le}
use Rattle.floats.specs.Sums.{sum_run}
use Rattle.floats.specs.Turns.{turns}
use Rattle.floats.specs.Count.{no_work, one_bisection}
use Rattle.floats.specs.declared.tally.Tally.{Tally}
use Rattle.imhof.specs.declared.Part.{Part}
use Rattle.imhof.specs.declared.Standing.TheVariants.{Open, Settled, Refused}
use Rattle.imhof.specs.Rule.{gk15_of}
use Rattle.imhof.specs.Parts.{part_at, errors_of, worst_of, left_half, right_half, bisected_at, finite_part, looked_at, Stage, stage, tolerance, one_rule, first_stage, next_stage, stage_after}

module _ (f : Float → Float) (ps : List Part) (t : Tally) where
  pub next-settled : le (sum_run (errors_of ps)) tolerance ≡ true → next_stage f (stage ps t Open) ≡ stage ps t Settled
  unfolding next_stage
  next-settled h = rw h

  module _ (more : le (sum_run (errors_of ps)) tolerance ≡ false) where
    pub next-bisected : finite_part (left_half f (part_at ps (worst_of ps))) && finite_part (right_half f (part_at ps (worst_of ps))) ≡ true
        → next_stage f (stage ps t Open) ≡ stage (bisected_at f (worst_of ps) ps) (one_rule (one_rule (one_bisection t))) Open
    unfolding next_stage
    next-bisected h = rw (more, h)

    pub next-refused : finite_part (left_half f (part_at ps (worst_of ps))) && finite_part (right_half f (part_at ps (worst_of ps))) ≡ false → next_stage f (stage ps t Open) ≡ stage ps t Refused
    unfolding next_stage
    next-refused h = rw (more, h)

-- a stage that is not open stays as it is
pub stays-settled : (f : Float → Float) (ps : List Part) (t : Tally) → next_stage f (stage ps t Settled) ≡ stage ps t Settled
unfolding next_stage
stays-settled f ps t = refl

pub stays-refused : (f : Float → Float) (ps : List Part) (t : Tally) → next_stage f (stage ps t Refused) ≡ stage ps t Refused
unfolding next_stage
stays-refused f ps t = refl

-- once a turn changes nothing, no later turn does
pub turns-stay : (f : Float → Float) (s₀ s : Stage) (j n : ℕ) → j ≤ n → turns j (λ t. next_stage f) s₀ ≡ s → next_stage f s ≡ s → turns n (λ t. next_stage f) s₀ ≡ s
unfolding turns
turns-stay f s₀ s j zero h e k = let z : j ≡ 0 = omega arith in subst (λ m. turns m (λ t. next_stage f) s₀ ≡ s) z e
turns-stay f s₀ s j (suc n) h e k = ⊎_elim (λ z. subst (λ m. turns m (λ t. next_stage f) s₀ ≡ s) z e) (λ l. ap (next_stage f) (turns-stay f s₀ s j n (omega arith) e k) ∙ k) (eq-or-lt_of_le {n = j} {m = suc n} h)

module _ (f : Float → Float) (a b : Float) where
  pub first-open : finite_part (gk15_of f a b) ≡ true → stage_after 0 f a b ≡ stage (gk15_of f a b ∷ []) (one_rule no_work) Open
  unfolding stage_after
  first-open h = rw h

  pub first-broken : finite_part (gk15_of f a b) ≡ false → stage_after 0 f a b ≡ stage [] no_work Refused
  unfolding stage_after
  first-broken h = rw h

  pub stage-next : (k : ℕ) → stage_after (k + 1) f a b ≡ next_stage f (stage_after k f a b)
  unfolding stage_after
  stage-next k = rw (add-one k)

  pub stage-stays : (s : Stage) (j n : ℕ) → j ≤ n → stage_after j f a b ≡ s → next_stage f s ≡ s → stage_after n f a b ≡ s
  unfolding stage_after
  stage-stays = turns-stay f (first_stage f a b)

-- ---- how a turn of an open stage ended tells all of it

never-settled : Settled ≡ Open → ⊥
never-settled q = let z : ◌≡◌ {A = ℕ} 0 1 = cc in omega arith

never-refused : Refused ≡ Open → ⊥
never-refused q = let z : ◌≡◌ {A = ℕ} 0 1 = cc in omega arith

apart : Settled ≡ Refused → ⊥
apart q = let z : ◌≡◌ {A = ℕ} 0 1 = cc in omega arith

module _ (f : Float → Float) (ps : List Part) (t : Tally) where
  abbrev pub split : Stage
  split = stage (bisected_at f (worst_of ps) ps) (one_rule (one_rule (one_bisection t))) Open

  abbrev after : Stage
  after = next_stage f (stage ps t Open)

  abbrev pub finite_halves : Bool
  finite_halves = finite_part (left_half f (part_at ps (worst_of ps))) && finite_part (right_half f (part_at ps (worst_of ps)))

  either : (fine : Bool) (a b : Stage) → ((fine ≡ true) × (cond fine a b ≡ a)) ⊎ (cond fine a b ≡ b)
  either true a b = inl (refl, refl)
  either false a b = inr refl

  -- the three ways a turn ends
  pub turned : (after ≡ stage ps t Settled) ⊎ (((finite_halves ≡ true) × (after ≡ split)) ⊎ (after ≡ stage ps t Refused))
  unfolding next_stage
  turned = go (le (sum_run (errors_of ps)) tolerance)
    where
      go : (small : Bool) → (looked_at small f ps t ≡ stage ps t Settled) ⊎ (((finite_halves ≡ true) × (looked_at small f ps t ≡ split)) ⊎ (looked_at small f ps t ≡ stage ps t Refused))
      go true = inl refl
      go false = inr (either finite_halves split (stage ps t Refused))

  pub was_settled : after.standing ≡ Settled → after ≡ stage ps t Settled
  was_settled h =
      ⊎_elim (λ e. e) (λ e. ⊎_elim (λ e. absurd (never-settled (sym h ∙ ap (λ s. s.standing) e.1))) (λ e. absurd (apart (sym h ∙ ap (λ s. s.standing) e))) e) turned

  pub was-bisected : after.standing ≡ Open → after ≡ split
  was-bisected h =
      ⊎_elim (λ e. absurd (never-settled (sym (ap (λ s. s.standing) e) ∙ h))) (λ e. ⊎_elim (λ e. e.1) (λ e. absurd (never-refused (sym (ap (λ s. s.standing) e) ∙ h))) e) turned

  pub was-refused : after.standing ≡ Refused → after ≡ stage ps t Refused
  was-refused h =
      ⊎_elim (λ e. absurd (apart (sym (ap (λ s. s.standing) e) ∙ h))) (λ e. ⊎_elim (λ e. absurd (never-refused (sym h ∙ ap (λ s. s.standing) e.1))) (λ e. e) e) turned

  -- a bisection makes one part more
  pub length-split : 0 < length ps → length split.parts ≡ length ps + 1
  length-split h = simp (length-append, length-set) (rw (length-take-le (length ps - 1) ps (omega arith)) (omega arith))
