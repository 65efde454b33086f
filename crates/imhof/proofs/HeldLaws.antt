-- What the part room holds while the stages go on: the parts of the stage so far, over what stood there before. One idea: a stage has more parts than the ones before it, so what
-- it lays out goes over all that they left. Assumes nothing.
use mathlib.Core.Path.{◌≡◌, refl, sym, ap, subst, ◌∙◌}
use mathlib.Core.Bool.{true, false}
use mathlib.Core.List.{List, [], ◌∷◌}
use Prim.Native.Nat.{ℕ, ◌+◌, ◌-◌, ◌<◌}
use native.Mathlib.Omega.{arith}
use lib.ListN.{length}
use lib.Ieee.{Float}
use Rattle.floats.specs.declared.tally.Tally.{Tally}
use Rattle.floats.specs.Turns.{turns}
use Rattle.floats.specs.Count.{no_work, one_bisection}
use Rattle.floats.proofs.TurnLaws.{turns-none, turns_more}
use Rattle.imhof.specs.declared.Part.{Part}
use Rattle.imhof.specs.declared.Standing.{Standing}
use Rattle.imhof.specs.declared.Standing.TheVariants.{Open, Settled, Refused}
use Rattle.imhof.specs.Rule.{gk15_of}
use Rattle.imhof.specs.Parts.{most_bisections, most_parts, worst_of, bisected_at, finite_part, Stage, stage, one_rule, next_stage, stage_after}
use Rattle.std.specs.Prelude.{Ok}
use Rattle.imhof.specs.Imhof.{integral_of, quadrature_of}
use Rattle.imhof.specs.Quadrature.{Quadrature}
use Rattle.imhof.specs.Room.{PartRoom, stored, laid_out, parts_in}
use Rattle.imhof.proofs.RoomLaws.{laid_more, laid-over, laid_in, in-laid, length-in}
use Rattle.imhof.proofs.StageLaws.{first-broken, was_settled, was-bisected, was-refused, stays-settled, stays-refused, turns-stay, stage-stays, length-split}
use Rattle.imhof.proofs.Tiling.{counted}

-- one part laid out
pub laid_one : (p : Part) (r : List Float) → laid_out (p ∷ []) r ≡ stored 0 p r
unfolding laid_out
laid_one p r = sym (laid_more [] p r)

module _ (f : Float → Float) (s₀ : Stage) where
  -- after n - 1 bisections from s₀ on, the room is what its first n parts make of r, and they are the stage's
  abbrev pub Held : List Float → List Float → Tally → ℕ → Type 0
  Held r room t n = (turns (n - 1) (λ t. next_stage f) s₀ ≡ stage (parts_in n room) t Open) × (room ≡ laid_out (parts_in n room) r)

  -- so it stands at the end
  abbrev pub Ended : List Float → List Float → Tally → ℕ → Standing → Type 0
  Ended r room t n end = (turns most_bisections (λ t. next_stage f) s₀ ≡ stage (parts_in n room) t end) × (room ≡ laid_out (parts_in n room) r)

  pub ended-laid : (r room : List Float) (t : Tally) (n : ℕ) (end : Standing) → Ended r room t n end → room ≡ laid_out (turns most_bisections (λ t. next_stage f) s₀).parts r
  ended-laid r room t n end h = h.1 ∙ ap (λ s. laid_out s.parts r) (sym h.0)

  -- the sums of an end that is not refused are the answer
  abbrev pub Answered : List Float → List Float → Tally → ℕ → Type 0
  Answered r room t n = (Ok (integral_of (stage (parts_in n room) t Open)) ≡ quadrature_of (turns most_bisections (λ t. next_stage f) s₀)) × (room ≡ laid_out (turns most_bisections (λ t. next_stage f) s₀).parts r)

  pub answer-open : (r room : List Float) (t : Tally) (n : ℕ) → Ended r room t n Open → Answered r room t n
  answer-open r room t n h = (sym (ap quadrature_of h.0), ended-laid r room t n Open h)

  pub answer-settled : (r room : List Float) (t : Tally) (n : ℕ) → Ended r room t n Settled → Answered r room t n
  answer-settled r room t n h = (sym (ap quadrature_of h.0), ended-laid r room t n Settled h)

  -- the stage is open after all the turns
  pub held_all : (r room : List Float) (t : Tally) (n : ℕ) → n ≡ most_parts → Held r room t n → Ended r room t n Open
  held_all r room t n all held = (ap (λ k. turns (k - 1) (λ t. next_stage f) s₀) (sym all) ∙ held.0, held.1)

  module _ (r room : List Float) (t : Tally) (n : ℕ) (some : 0 < n) (small : n < most_parts) (fit : PartRoom room) (held : Held r room t n) where
    abbrev ps : List Part
    ps = parts_in n room

    next : turns (n + 1 - 1) (λ t. next_stage f) s₀ ≡ next_stage f (stage ps t Open)
    next =
        let e : n + 1 - 1 ≡ n - 1 + 1 = omega arith in
        ap (λ k. turns k (λ t. next_stage f) s₀) e ∙ turns_more (λ t. next_stage f) (n - 1) s₀ ∙ ap (next_stage f) held.0

    -- where it stays open there is one part more
    pub one-more : (m : ℕ) → Open ≡ (next_stage f (stage ps t Open)).standing → m ≡ length (next_stage f (stage ps t Open)).parts → m ≡ n + 1
    one-more m o count = count ∙ ap (λ z. length z.parts) (was-bisected f ps t (sym o)) ∙ length-split f ps t (omega (arith, length-in n room)) ∙ ap (λ n. n + 1) (length-in n room)

    pub held_next : (after : List Float) (m : ℕ) → Open ≡ (next_stage f (stage ps t Open)).standing → m ≡ length (next_stage f (stage ps t Open)).parts
        → after ≡ laid_out (next_stage f (stage ps t Open)).parts room → Held r after (one_rule (one_rule (one_bisection t))) m
    held_next after m o count at =
        let s = was-bisected f ps t (sym o) in
        let bs : List Part = bisected_at f (worst_of ps) ps in
        let few : length ps ≡ n = length-in n room in
        let more : length bs ≡ n + 1 = length-split f ps t (omega arith) ∙ ap (λ n. n + 1) few in
        let laid : after ≡ laid_out bs room = at ∙ ap (λ z. laid_out z.parts room) s in
        let back : parts_in (n + 1) after ≡ bs = ap (λ n. parts_in n after) (sym more) ∙ ap (parts_in (length bs)) laid ∙ in-laid bs room (omega arith) fit in
        subst (Held r after (one_rule (one_rule (one_bisection t)))) (sym (one-more m o count)) (
          next ∙ s ∙ ap (λ l. stage l (one_rule (one_rule (one_bisection t))) Open) (sym back),
          laid ∙ ap (laid_out bs) held.1 ∙ laid-over ps bs r (omega arith) (omega arith) ∙ ap (λ l. laid_out l r) (sym back),
        )

    -- a stage that is settled, or refused, is the last, and it leaves the room as it was
    last : (after : List Float) (end : Standing) → next_stage f (stage ps t Open) ≡ stage ps t end → next_stage f (stage ps t end) ≡ stage ps t end
        → after ≡ laid_out (next_stage f (stage ps t Open)).parts room → Ended r after t n end
    last after end s stays at =
        let same : after ≡ room = at ∙ ap (λ z. laid_out z.parts room) s ∙ laid_in n room in (
          turns-stay f s₀ (stage ps t end) (n + 1 - 1) most_bisections (omega arith) (next ∙ s) stays ∙ ap (λ l. stage (parts_in n l) t end) (sym same),
          rw same held.1,
        )

    pub held-settled : (after : List Float) (m : ℕ) → Settled ≡ (next_stage f (stage ps t Open)).standing → m ≡ length (next_stage f (stage ps t Open)).parts
        → after ≡ laid_out (next_stage f (stage ps t Open)).parts room → Ended r after t m Settled
    held-settled after m o count at =
        let s = was_settled f ps t (sym o) in
        let here : m ≡ n = count ∙ ap (λ z. length z.parts) s ∙ length-in n room in
        subst (λ k. Ended r after t k Settled) (sym here) (last after Settled s (stays-settled f ps t) at)

    pub held-refused : (after : List Float) → Refused ≡ (next_stage f (stage ps t Open)).standing → after ≡ laid_out (next_stage f (stage ps t Open)).parts room → Ended r after t n Refused
    held-refused after o = last after Refused (was-refused f ps t (sym o)) (stays-refused f ps t)

-- the room's first part
abbrev pub first : List Float → Stage
first r = stage (parts_in 1 r) (one_rule no_work) Open

-- before the first bisection
pub held_first : (f : Float → Float) (r : List Float) (t : Tally) → Held f (stage (parts_in 1 r) t Open) r r t 1
held_first f r t = (turns-none (λ t. next_stage f) (stage (parts_in 1 r) t Open), sym (laid_in 1 r))

module _ (f : Float → Float) (a b : Float) where
  -- where the first part is not finite there is no stage but the refused one
  pub first-refused : finite_part (gk15_of f a b) ≡ false → stage_after most_bisections f a b ≡ stage [] no_work Refused
  first-refused h = stage-stays f a b (stage [] no_work Refused) 0 most_bisections (omega arith) (first-broken f a b h) (stays-refused f [] no_work)

  module _ (r : List Float) (fit : PartRoom r) (fine : finite_part (gk15_of f a b) ≡ true) where
    -- the stages from the first part in the room on are the range's
    pub from_first : turns most_bisections (λ t. next_stage f) (stage (parts_in 1 (stored 0 (gk15_of f a b) r)) (one_rule no_work) Open) ≡ stage_after most_bisections f a b
    unfolding stage_after
    from_first =
        let p : Part = gk15_of f a b in
        let one : parts_in 1 (stored 0 p r) ≡ p ∷ [] = ap (parts_in 1) (sym (laid_one p r)) ∙ in-laid (p ∷ []) r (omega arith) fit in
        ap (λ l. turns most_bisections (λ t. next_stage f) (stage l (one_rule no_work) Open)) one ∙ rw fine refl

    -- and what they lay out goes over that part
    pub over_first : laid_out (stage_after most_bisections f a b).parts (stored 0 (gk15_of f a b) r) ≡ laid_out (stage_after most_bisections f a b).parts r
    over_first =
        let p : Part = gk15_of f a b in
        let many = counted f a b fine most_bisections in
        ap (laid_out (stage_after most_bisections f a b).parts) (sym (laid_one p r)) ∙ laid-over (p ∷ []) (stage_after most_bisections f a b).parts r (omega (arith, many.0, many.2)) (omega (arith, many.0))

  -- so what the turns come to from the whole range's part on, found finite and put into the room, is what the range's stages come to
  pub from_range : (whole : Part) (r s : List Float) → PartRoom r → whole ≡ gk15_of f a b → finite_part whole ≡ true → s ≡ stored 0 whole r → (q : Quadrature) (room : List Float)
      → (q ≡ quadrature_of (turns most_bisections (λ t. next_stage f) (first s))) × (room ≡ laid_out (turns most_bisections (λ t. next_stage f) (first s)).parts s)
      → (q ≡ quadrature_of (stage_after most_bisections f a b)) × (room ≡ laid_out (stage_after most_bisections f a b).parts r)
  from_range whole r s fit is finite put q room h =
      let fine : finite_part (gk15_of f a b) ≡ true = ap finite_part (sym is) ∙ finite in
      let at : s ≡ stored 0 (gk15_of f a b) r = put ∙ ap (λ p. stored 0 p r) is in
      let e : turns most_bisections (λ t. next_stage f) (first s) ≡ stage_after most_bisections f a b = rw at (from_first r fit fine) in (
        h.0 ∙ ap quadrature_of e,
        h.1 ∙ ap (λ z. laid_out z.parts s) e ∙ ap (laid_out (stage_after most_bisections f a b).parts) at ∙ over_first r fit fine,
      )

pub laid_none : (r : List Float) → laid_out [] r ≡ r
unfolding laid_out turns
laid_none r = refl
