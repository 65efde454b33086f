-- What holds of the one first part and is kept by every bisection holds of every stage, whether it is open, settled or refused. One idea: a turn leaves the parts, or bisects one of
-- them into finite halves. Assumes nothing.
use mathlib.Core.Path.{◌≡◌, sym, ap, ◌∙◌, subst}
use mathlib.Core.Logic.{⊎_elim}
use mathlib.Core.Bool.{Bool, true, false, cond}
use mathlib.Core.List.{List, [], ◌∷◌, ◌++◌}
use Prim.Native.Nat.{ℕ, zero, suc, ◌-◌, ◌≤◌, ◌<◌}
use native.Mathlib.Nat.{not-suc-le-zero}
use native.Mathlib.Numerals.{add-one}
use native.Mathlib.Omega.{arith}
use lib.ListN.{length, take, set, length-map}
use lib.Ieee.{Float}
use Rattle.floats.specs.Words.{◌‼◌}
use Rattle.floats.specs.Signs.{before}
use Rattle.floats.specs.Turns.{turns}
use Rattle.floats.specs.Count.{no_work}
use Rattle.floats.specs.declared.tally.Tally.{Tally}
use Rattle.imhof.specs.declared.Part.{Part}
use Rattle.imhof.specs.declared.Standing.{Standing}
use Rattle.imhof.specs.declared.Standing.TheVariants.{Open, Settled, Refused}
use Rattle.imhof.specs.Rule.{gk15_of}
use Rattle.imhof.specs.Parts.{part_at, errors_of, last_greatest, worst_of, without, left_half, right_half, bisected_at, finite_part, Stage, stage, one_rule, next_stage, stage_after}
use Rattle.imhof.proofs.StageLaws.{split, finite_halves, first-open, stage-next, turned, stays-settled, stays-refused}

-- the greatest of some numbers is one of them
greatest-inside : (es : List Float) → 0 < length es → last_greatest es < length es
unfolding last_greatest turns
greatest-inside es h = let b = go (length es) in omega arith
  where
    pick : (t : Bool) (v i : ℕ) → v ≤ i - 1 → cond t v i ≤ suc i - 1
    pick true v i l = omega arith
    pick false v i l = omega arith

    go : (n : ℕ) → turns n (λ i w. cond (before (es ‼ i) (es ‼ w)) w i) 0 ≤ n - 1
    go zero = omega arith
    go (suc n) = pick (before (es ‼ n) (es ‼ turns n (λ i w. cond (before (es ‼ i) (es ‼ w)) w i) 0)) (turns n (λ i w. cond (before (es ‼ i) (es ‼ w)) w i) 0) n (go n)

pub worst-inside : (ps : List Part) → 0 < length ps → worst_of ps < length ps
worst-inside ps h = subst (λ n. worst_of ps < n) (length-map ps (λ p. p.error)) (greatest-inside (errors_of ps) (subst (λ n. 0 < n) (sym (length-map ps (λ p. p.error))) h))

-- a turn leaves the parts, or bisects one
pub next-cases : (f : Float → Float) (Q : List Part → Tally → Type 0) (s : Stage) → Q s.parts s.tally → (finite_halves f s.parts s.tally ≡ true → Q (split f s.parts s.tally).parts (split f s.parts s.tally).tally)
    → Q (next_stage f s).parts (next_stage f s).tally
next-cases f Q s = go s.parts s.tally s.standing
  where
    go : (ps : List Part) (t : Tally) (now : Standing) → Q ps t → (finite_halves f ps t ≡ true → Q (split f ps t).parts (split f ps t).tally) → Q (next_stage f (stage ps t now)).parts (next_stage f (stage ps t now)).tally
    go ps t Open h k =
        ⊎_elim (λ e. subst (λ z. Q z.parts z.tally) (sym e) h)
        (λ e. ⊎_elim (λ e. subst (λ z. Q z.parts z.tally) (sym e.1) (k e.0)) (λ e. subst (λ z. Q z.parts z.tally) (sym e) h) e)
        (turned f ps t)
    go ps t Settled h k = subst (λ z. Q z.parts z.tally) (sym (stays-settled f ps t)) h
    go ps t Refused h k = subst (λ z. Q z.parts z.tally) (sym (stays-refused f ps t)) h

module _ (f : Float → Float) (P : List Part → Tally → Type 0) (keeps : (ps : List Part) (t : Tally) → finite_halves f ps t ≡ true → P ps t → P (split f ps t).parts (split f ps t).tally) where
  -- what holds of the one first part and is kept by every bisection holds of every stage
  pub every-stage : (a b : Float) → finite_part (gk15_of f a b) ≡ true → P (gk15_of f a b ∷ []) (one_rule no_work) → (k : ℕ) → P (stage_after k f a b).parts (stage_after k f a b).tally
  every-stage a b fine h zero = subst (λ z. P z.parts z.tally) (sym (first-open f a b fine)) h
  every-stage a b fine h (suc k) =
      subst (λ z. P z.parts z.tally) (sym (stage-next f a b k) ∙ ap (λ n. stage_after n f a b) (add-one k)) (let now = every-stage a b fine h k in next-cases f P (stage_after k f a b) now (λ e. keeps _ _ e now))

-- ---- what every part of a list has

module _ (P : Part → Type 0) where
  abbrev pub All : List Part → Type 0
  All [] = Unit {0}
  All (p ∷ ps) = P p × All ps

  all_take : (n : ℕ) (ps : List Part) → All ps → All (take n ps)
  all_take zero ps h = tt
  all_take (suc n) [] h = tt
  all_take (suc n) (p ∷ ps) h = (h.0, all_take n ps h.1)

  all_set : (ps : List Part) (w : ℕ) (p : Part) → P p → All ps → All (set ps w p)
  all_set [] w p q h = tt
  all_set (x ∷ ps) zero p q h = (q, h.1)
  all_set (x ∷ ps) (suc w) p q h = (h.0, all_set ps w p q h.1)

  all_append : (ps qs : List Part) → All ps → All qs → All (ps ++ qs)
  all_append [] qs h k = k
  all_append (p ∷ ps) qs h k = (h.0, all_append ps qs h.1 k)

  pub all-at : (ps : List Part) (i : ℕ) → i < length ps → All ps → P (part_at ps i)
  all-at [] i l h = absurd (not-suc-le-zero l)
  all-at (p ∷ ps) zero l h = h.0
  all-at (p ∷ ps) (suc i) l h = all-at ps i (omega arith) h.1

  -- a bisection into halves that have it
  pub all-bisected : (f : Float → Float) (ps : List Part) → 0 < length ps → P (left_half f (part_at ps (worst_of ps))) → P (right_half f (part_at ps (worst_of ps))) → All ps
      → All (bisected_at f (worst_of ps) ps)
  all-bisected f ps some l r h =
      all_append (without (worst_of ps) ps) (left_half f (part_at ps (worst_of ps)) ∷ right_half f (part_at ps (worst_of ps)) ∷ [])
      (all_set (take (length ps - 1) ps) (worst_of ps) (part_at ps (length ps - 1)) (all-at ps (length ps - 1) (omega arith) h) (all_take (length ps - 1) ps h))
      (l, (r, tt))

pub all_map : (P Q : Part → Type 0) → ((p : Part) → P p → Q p) → (ps : List Part) → All P ps → All Q ps
all_map P Q g [] h = tt
all_map P Q g (p ∷ ps) h = (g p h.0, all_map P Q g ps h.1)
