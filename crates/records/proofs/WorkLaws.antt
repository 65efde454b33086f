-- The turns over the records, one at a time: what the next turn makes of a work that goes on, case by case, that a work which is done stays as it is, and what every turn leaves of the
-- list. Turn by turn over n records the work is that of n - 1 turns. Assumes nothing.
use mathlib.Core.Path.{◌≡◌, refl, sym, ap, ◌∙◌}
use mathlib.Core.Logic.{⊎_elim}
use mathlib.Core.Bool.{Bool, true, false, ◌&&◌}
use mathlib.Core.List.{List}
use Prim.Native.Nat.{ℕ, zero, suc, ◌-◌, ◌≤◌, ◌<◌}
use native.Mathlib.Nat.{eq-or-lt_of_le}
use native.Mathlib.Omega.{arith}
use lib.Dec.{leb}
use lib.ListN.{length, drop, set, length-set}
use lib.Seq.{drop-set-lt}
use lib.Ieee.{Float, le}
use borrow.Author.Tests.{lt-leb, le-leb, leb-false}
use Rattle.std.specs.Prelude.{Ok}
use Rattle.floats.specs.Count.{one_bisection}
use Rattle.floats.specs.Turns.{turns}
use Rattle.floats.specs.declared.tally.Tally.{Tally}
use Rattle.imhof.specs.declared.Part.{Part}
use Rattle.imhof.specs.Quadrature.{Quadrature, broken}
use Rattle.imhof.specs.Rule.{gk15_of}
use Rattle.imhof.specs.Parts.{most_parts, part_at, finite_part, left_half, right_half, tolerance, one_rule}
use Rattle.records.specs.declared.look.Look.{Look}
use Rattle.records.specs.Records.{look_of, sums_of, split_of, Course, going, done, Work, work, first_work, halved_by, looked_by, open_by, next_by, next_work, work_after}
use Rattle.records.proofs.LookLaws.{worst-below}

-- both halves of the record of greatest error are finite
abbrev pub finite_halves : (Float → Float) → Look → Bool
finite_halves f l = finite_part (left_half f l.greatest) && finite_part (right_half f l.greatest)

-- ---- turn after turn

module _ (f : Float → Float) (a b : Float) (ys : List Part) where
  abbrev pub after : ℕ → Work
  after k = work_after k f a b ys

  pub work-none : first_work f a b ys ≡ after 0
  unfolding work_after turns
  work-none = refl

  work-suc : (k : ℕ) → next_work f (suc k) (after k) ≡ after (suc k)
  unfolding work_after turns
  work-suc k = refl

  pub work-next : (n : ℕ) → 0 < n → next_work f n (after (n - 1)) ≡ after n
  work-next n some = let e : suc (n - 1) ≡ n = omega arith in ap (λ (m : ℕ). next_work f m (after (n - 1))) (sym e) ∙ work-suc (n - 1) ∙ ap after e

  module _ (n : ℕ) (some : 0 < n) (t : Tally) (ps : List Part) (at : after (n - 1) ≡ work (going t) ps) where
    abbrev look : Look
    look = look_of ps n

    turned : next_work f n (work (going t) ps) ≡ after n
    turned = ap (next_work f n) (sym at) ∙ work-next n some

    -- no room for another bisection
    pub turn-full : most_parts ≤ n → after n ≡ work (done (Ok (sums_of look t))) ps
    unfolding next_work
    turn-full h = sym turned ∙ rw (le-leb most_parts n h)

    module _ (space : n < most_parts) where
      pub turn-small : le look.error tolerance ≡ true → after n ≡ work (done (Ok (sums_of look t))) ps
      unfolding next_work
      turn-small h = sym turned ∙ rw (lt-leb most_parts n space, h)

      module _ (large : le look.error tolerance ≡ false) where
        pub turn-broken : finite_halves f look ≡ false → after n ≡ work (done broken) ps
        unfolding next_work
        turn-broken h = sym turned ∙ rw (lt-leb most_parts n space, large, h)

        pub turn-halved : finite_halves f look ≡ true
            → after n ≡ work (going (one_rule (one_rule (one_bisection t)))) (split_of ps n look.worst (left_half f look.greatest) (right_half f look.greatest))
        unfolding next_work
        turn-halved h = sym turned ∙ rw (lt-leb most_parts n space, large, h)

  -- what is done stays so
  stays : (k : ℕ) (q : Quadrature) (ps : List Part) → after k ≡ work (done q) ps → after (suc k) ≡ work (done q) ps
  unfolding next_work
  stays k q ps at = sym (work-suc k) ∙ ap (next_work f (suc k)) at

  pub stays-done : (j n : ℕ) → j ≤ n → (q : Quadrature) (ps : List Part) → after j ≡ work (done q) ps → after n ≡ work (done q) ps
  stays-done j zero h q ps at = let z : 0 ≡ j = omega arith in ap after z ∙ at
  stays-done j (suc n) h q ps at =
      ⊎_elim (λ z. ap after (sym z) ∙ at) (λ g. stays n q ps (stays-done j n (omega (arith, g)) q ps at)) (eq-or-lt_of_le {n = j} {m = suc n} h)

  -- ---- what every turn keeps of the list: its length, and the records past the first most_parts

  beyond-split : (ps : List Part) (n w : ℕ) (p q : Part) → n < most_parts → w < most_parts → drop most_parts (split_of ps n w p q) ≡ drop most_parts ps
  beyond-split ps n w p q hn hw =
      drop-set-lt most_parts (set (set ps w (part_at ps (n - 1))) (n - 1) p) n q hn ∙ drop-set-lt most_parts (set ps w (part_at ps (n - 1))) (n - 1) p (omega arith) ∙ drop-set-lt most_parts ps w (part_at ps (n - 1)) hw

  abbrev Kept : List Part → List Part → Type 0
  Kept ps qs = (length qs ≡ length ps) × (drop most_parts qs ≡ drop most_parts ps)

  module _ (n : ℕ) (some : 0 < n) (ps : List Part) where
    halved-kept : (fine : Bool) (t : Tally) → n < most_parts → Kept ps (halved_by fine f n (look_of ps n) t ps).records
    halved-kept true t h =
        let g = worst-below ps n some in
        (simp length-set, beyond-split ps n (look_of ps n).worst (left_half f (look_of ps n).greatest) (right_half f (look_of ps n).greatest) h (omega (arith, g, h)))
    halved-kept false t h = (refl, refl)

    looked-kept : (small : Bool) (t : Tally) → n < most_parts → Kept ps (looked_by small f n (look_of ps n) t ps).records
    looked-kept true t h = (refl, refl)
    looked-kept false t h = halved-kept (finite_halves f (look_of ps n)) t h

    open-kept : (full : Bool) (t : Tally) → leb most_parts n ≡ full → Kept ps (open_by full f n (look_of ps n) t ps).records
    open-kept true t h = (refl, refl)
    open-kept false t h = looked-kept (le (look_of ps n).error tolerance) t (leb-false most_parts n h)

    next-kept : (c : Course) → Kept ps (next_by c f n ps).records
    next-kept (going t) = open-kept (leb most_parts n) t refl
    next-kept (done q) = (refl, refl)

  pub kept : (k : ℕ) → Kept ys (after k).records
  unfolding next_work
  kept zero =
      (ap (λ (w : Work). length w.records) (sym work-none) ∙ length-set ys 0 (gk15_of f a b), ap (λ (w : Work). drop most_parts w.records) (sym work-none) ∙ drop-set-lt most_parts ys 0 (gk15_of f a b) (omega arith))
  kept (suc k) =
      let g = kept k in
      let h = next-kept (suc k) (omega arith) (after k).records (after k).course in
      (ap (λ (w : Work). length w.records) (sym (work-suc k)) ∙ h.0 ∙ g.0, ap (λ (w : Work). drop most_parts w.records) (sym (work-suc k)) ∙ h.1 ∙ g.1)
