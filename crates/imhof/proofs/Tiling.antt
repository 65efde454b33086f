-- After any number of turns the parts are a reordering of a chain from one end of the range to the other: neighbours share an end to the bit, also where a middle equals an end. There
-- is one part more than bisections, and no more bisections than turns; there are 15 evaluations and 30 more for each bisection. One idea: a bisection puts two links for one. Assumes nothing.
use mathlib.Core.Path.{◌≡◌, refl, sym, ap, ◌∙◌, subst}
use mathlib.Core.Logic.{⊎_elim}
use mathlib.Core.Bool.{true}
use mathlib.Core.List.{List, [], ◌∷◌, ◌++◌, Perm, append_assoc}
use Prim.Native.Nat.{ℕ, zero, suc, ◌+◌, ◌-◌, ◌*◌, ◌≤◌, ◌<◌}
use native.Mathlib.Nat.{eq-or-lt_of_le}
use native.Mathlib.Numerals.{add-one}
use native.Mathlib.Omega.{arith}
use lib.ListN.{length, take, drop}
use lib.Seq.{take-suc, take-length, length-take-le, split_at, set_split, set_out, get_or-take}
use lib.Ieee.{Float}
use Rattle.floats.specs.declared.tally.Tally.{Tally}
use Rattle.imhof.specs.declared.Part.{Part}
use Rattle.imhof.specs.Rule.{gk15_of}
use Rattle.imhof.specs.Parts.{part_at, worst_of, without, left_half, right_half, bisected_at, finite_part, stage_after}
use Rattle.imhof.proofs.Reorder.{Insert, here, there, Same, none, more, insert-last, insert-middle, take_out, put_in, reordered}
use Rattle.imhof.proofs.StageLaws.{split, finite_halves, first-open, stage-next, length-split}
use Rattle.imhof.proofs.EveryStage.{worst-inside, next-cases, every-stage}

-- links from a to b, each beginning where the one before ends
abbrev pub Chain : Float → Float → List Part → Type 0
Chain a b [] = a ≡ b
Chain a b (p ∷ ps) = (a ≡ p.lo) × Chain p.hi b ps

-- ---- two links for one

module _ (f : Float → Float) (p : Part) where
  two-for-one : {a b : Float} {ds cs : List Part} → Insert p ds cs → Chain a b cs
      → (es : List Part) × (fs : List Part) × Insert (left_half f p) ds es × Insert (right_half f p) es fs × Chain a b fs
  unfolding gk15_of
  two-for-one {b = b} {ds = ds} (here e) c =
      (left_half f p ∷ ds, left_half f p ∷ (right_half f p ∷ ds), here refl, there (here refl), (c.0 ∙ ap (λ q. q.lo) (sym e), (refl, subst (λ q. Chain q.hi b ds) (sym e) c.1)))
  two-for-one (there {y = y} i) c =
      let r = two-for-one i c.1 in
      (y ∷ r.0, y ∷ r.1, there r.2, there r.3, (c.0, r.4))

-- ---- the last part moved into the place of one that was taken out

module _ (ps : List Part) (w : ℕ) (inside : w < length ps) where
  abbrev back : ℕ
  back = length ps - 1

  abbrev front : List Part
  front = take back ps

  abbrev last : Part
  last = part_at ps back

  whole : ps ≡ front ++ (last ∷ [])
  whole = let count : length ps ≡ suc back = omega arith in sym (take-length ps) ∙ ap (λ n. take n ps) count ∙ take-suc ps back _ (omega arith)

  length_front : length front ≡ back
  length_front = length-take-le back ps (omega arith)

  pub one_out : {cs : List Part} → Same ps cs → (ds : List Part) × Insert (part_at ps w) ds cs × Same (without w ps) ds
  one_out {cs} s =
      ⊎_elim
      (λ e.
      let out = take_out (insert-last last front) (subst (λ l. Same l cs) whole s) in
      (out.0, subst (λ i. Insert (part_at ps i) out.0 cs) (sym e) out.1, subst (λ l. Same l out.0) (sym (set_out front w last (omega (arith, length_front)))) out.2))
      (λ l.
      let p : Part = part_at front w in
      let same : p ≡ part_at ps w = get_or-take back ps w _ l in
      let rest : List Part = take w front ++ drop (suc w) front in
      let cut : front ≡ take w front ++ (p ∷ drop (suc w) front) = split_at front w _ (omega (arith, length_front)) in
      let all : ps ≡ take w front ++ (p ∷ (drop (suc w) front ++ (last ∷ []))) = whole ∙ ap (λ k. k ++ (last ∷ [])) cut ∙ append_assoc (take w front) (p ∷ drop (suc w) front) (last ∷ []) in
      let out = take_out (insert-middle p (take w front) (drop (suc w) front ++ (last ∷ []))) (subst (λ k. Same k cs) all s) in
      let moved = take_out (insert-last last rest) (subst (λ k. Same k out.0) (sym (append_assoc (take w front) (drop (suc w) front) (last ∷ []))) out.2) in
      let again = put_in (insert-middle last (take w front) (drop (suc w) front)) moved.2 moved.1 in
      (out.0, subst (λ q. Insert q out.0 cs) same out.1, subst (λ k. Same k out.0) (sym (set_split front w last (omega (arith, length_front)))) again))
      (eq-or-lt_of_le {n = w} {m = back} (omega arith))

-- the parts in some order are a chain from a to b
abbrev pub Tiles : Float → Float → List Part → Type 0
Tiles a b ps = (cs : List Part) × Same ps cs × Chain a b cs

module _ (f : Float → Float) (a b : Float) where
  -- a bisection keeps it so
  bisection-tiles : (ps : List Part) (w : ℕ) → w < length ps → Tiles a b ps → Tiles a b (bisected_at f w ps)
  bisection-tiles ps w inside (cs, s, c) =
      let out = one_out ps w inside s in
      let two = two-for-one f (part_at ps w) out.1 c in
      let left = put_in (insert-last (left_half f (part_at ps w)) (without w ps)) out.2 two.2 in
      let both = put_in (insert-last (right_half f (part_at ps w)) (without w ps ++ (left_half f (part_at ps w) ∷ []))) left two.3 in
      (two.1, subst (λ l. Same l two.1) (append_assoc (without w ps) (left_half f (part_at ps w) ∷ []) (right_half f (part_at ps w) ∷ [])) both, two.4)

-- ---- every stage

module _ (f : Float → Float) (a b : Float) (fine : finite_part (gk15_of f a b) ≡ true) where
  -- the parts of every stage, in some order, are a chain from a to b
  pub tiled : (k : ℕ) → (cs : List Part) × Perm (stage_after k f a b).parts cs × Chain a b cs
  tiled k =
      let r = every-stage f (λ ps t. (0 < length ps) × Tiles a b ps) keeps a b fine (omega arith, first) k in
      (r.1.0, reordered r.1.1, r.1.2)
    where
      keeps : (ps : List Part) (t : Tally) → finite_halves f ps t ≡ true → (0 < length ps) × Tiles a b ps → (0 < length (split f ps t).parts) × Tiles a b (split f ps t).parts
      keeps ps t e (some, tiles) = (omega (arith, length-split f ps t some), bisection-tiles f a b ps (worst_of ps) (worst-inside ps some) tiles)

      first : Tiles a b (gk15_of f a b ∷ [])
      first = unfold gk15_of in (gk15_of f a b ∷ [], more (here refl) none, (refl, refl))

  abbrev Counts : List Part → Tally → Type 0
  Counts ps t = (length ps ≡ t.bisections + 1) × (t.evaluations ≡ 15 + 30 * t.bisections)

  -- one part more than bisections; 15 evaluations, and 30 more for each bisection; no more bisections than turns
  pub counted : (k : ℕ)
      → (length (stage_after k f a b).parts ≡ (stage_after k f a b).tally.bisections + 1) × ((stage_after k f a b).tally.evaluations ≡ 15 + 30 * (stage_after k f a b).tally.bisections) × ((stage_after k f a b).tally.bisections ≤ k)
  counted k = let r = every-stage f Counts (λ ps t e h. (length-split f ps t (omega arith) ∙ ap (λ n. n + 1) h.0, omega arith)) a b fine (refl, refl) k in (r.0, r.1, turns-bound k)
    where
      turns-bound : (k : ℕ) → (stage_after k f a b).tally.bisections ≤ k
      turns-bound zero = subst (λ z. z.tally.bisections ≤ 0) (sym (first-open f a b fine)) (omega arith)
      turns-bound (suc k) =
          let now = turns-bound k in
          subst (λ z. z.tally.bisections ≤ suc k) (sym (stage-next f a b k) ∙ ap (λ n. stage_after n f a b) (add-one k)) (next-cases f (λ ps t. t.bisections ≤ suc k) (stage_after k f a b) (omega arith) (λ e. omega arith))
