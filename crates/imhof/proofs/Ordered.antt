-- The parts of every stage lie within the range, each with its left end at most its right end, where the range's own ends stand so and are below 2 ^ 1023 in size. With the chain of
-- Tiling: they tile the range. One idea: the middle of a part lies between its ends. Assumes nothing.
use mathlib.Core.Path.{◌≡◌, sym, subst}
use mathlib.Core.Bool.{Bool, true, false, true≢false}
use mathlib.Core.List.{List}
use Prim.Native.Nat.{ℕ, ◌*◌, ◌^◌, ◌<◌}
use native.Mathlib.Nat.{mul-one}
use native.Mathlib.Omega.{arith}
use lib.IntN.{ℤ}
use lib.Dec.{T}
use borrow.Author.Tests.{ltb-true}
use lib.ListN.{length}
use lib.Ieee.{Float, nan, inf, fin, binary64, up, down, lt, le, fits, of_bits}
use lib.Ieee.Fits.{mul-fits}
use Rattle.floats.specs.Words.{◌⊕◌, float}
use Rattle.floats.specs.Signs.{abs_of}
use Rattle.floats.specs.declared.tally.Tally.{Tally}
use Rattle.imhof.specs.declared.Part.{Part}
use Rattle.elementary.specs.Patterns.{half}
use Rattle.imhof.specs.Rule.{gk15_of, middle_of}
use Rattle.imhof.specs.Parts.{part_at, worst_of, left_half, right_half, finite_part, stage_after}
use Rattle.imhof.proofs.StageLaws.{split, finite_halves, length-split}
use Rattle.imhof.proofs.EveryStage.{All, all_map, all-at, all-bisected, worst-inside, every-stage}
use Rattle.floats.proofs.OrderLaws.{le-self}
use Rattle.imhof.proofs.Midpoint.{Small, middle-between, le-through, small-through}

-- 2 ^ 1023
abbrev pub limit : Float
limit = float 0x7fe0000000000000

-- a number that is below 2 ^ 1023 in size is finite
pub data Bounded : Float → Type 0 where
  bounded : {s : Bool} {m : ℕ} {e : ℤ} → Small binary64 m e → Bounded (fin s m e)

pub bounded-by : (x : Float) → lt (abs_of x) limit ≡ true → Bounded x
unfolding lt abs_of of_bits
bounded-by nan h = absurd (true≢false (sym h))
bounded-by (inf s) h = absurd (true≢false (sym h))
bounded-by (fin s m e) h = bounded (subst (λ z. z < 2 ^ 1023 * down e) (mul-one (m * up e)) (ltb-true (m * up e * 1) (2 ^ 1023 * down e) h))

-- x lies between a and b
abbrev Inside : Float → Float → Float → Type 0
Inside a b x = T (fits binary64 x) × (le a x ≡ true) × (le x b ≡ true)

inside-bounded : {a b : Float} (x : Float) → Bounded a → Bounded b → T (fits binary64 a) → T (fits binary64 b) → Inside a b x → Bounded x
unfolding le
inside-bounded nan (bounded u) (bounded v) p q i = absurd (true≢false (sym i.1))
inside-bounded (inf true) (bounded u) (bounded v) p q i = absurd (true≢false (sym i.1))
inside-bounded (inf false) (bounded u) (bounded v) p q i = absurd (true≢false (sym i.2))
inside-bounded (fin r k c) (bounded {s = s} {m = m} {e = e} u) (bounded {s = t} {m = n} {e = d} v) p q i =
    bounded (small-through binary64 s m e r k c t n d p i.0 q i.1 i.2 u v)

between_ends : {x y z : Float} → Bounded x → Bounded y → Bounded z → T (fits binary64 x) → T (fits binary64 y) → T (fits binary64 z) → le x y ≡ true → le y z ≡ true → le x z ≡ true
between_ends (bounded {s = s} {m = m} {e = e} u) (bounded {s = r} {m = k} {e = c} w) (bounded {s = t} {m = n} {e = d} v) p o q h l = le-through binary64 s m e r k c t n d p o q h l

at-most-itself : {x : Float} → Bounded x → le x x ≡ true
at-most-itself (bounded {s = s} {m = m} {e = e} u) = le-self s m e

-- the middle of two numbers lies between them
pub middle-lies : {x y : Float} → Bounded x → Bounded y → T (fits binary64 x) → T (fits binary64 y) → le x y ≡ true → (le x (middle_of x y) ≡ true) × (le (middle_of x y) y ≡ true)
unfolding of_bits
middle-lies (bounded {s = s} {m = m} {e = e} u) (bounded {s = t} {m = n} {e = d} v) p q h = middle-between binary64 s m e t n d p q u v h

module _ (f : Float → Float) (a b : Float) (A : Bounded a) (B : Bounded b) (p : T (fits binary64 a)) (q : T (fits binary64 b)) where
  -- a part with both ends in the range, the left at most the right
  abbrev Standing : Part → Type 0
  Standing r = Inside a b r.lo × Inside a b r.hi × (le r.lo r.hi ≡ true)

  middle-inside : (r : Part) → Standing r → Inside a b (middle_of r.lo r.hi) × (le r.lo (middle_of r.lo r.hi) ≡ true) × (le (middle_of r.lo r.hi) r.hi ≡ true)
  middle-inside r (lo, hi, o) =
      let L : Bounded r.lo = inside-bounded r.lo A B p q lo in
      let H : Bounded r.hi = inside-bounded r.hi A B p q hi in
      let m : (le r.lo (middle_of r.lo r.hi) ≡ true) × (le (middle_of r.lo r.hi) r.hi ≡ true) = middle-lies L H lo.0 hi.0 o in
      let fit : T (fits binary64 (middle_of r.lo r.hi)) = mul-fits binary64 half (r.lo ⊕ r.hi) in
      let M : Bounded (middle_of r.lo r.hi) = inside-bounded (middle_of r.lo r.hi) L H lo.0 hi.0 (fit, m.0, m.1) in
      ((fit, between_ends A L M p lo.0 fit lo.1 m.0, between_ends M H B fit hi.0 q m.1 hi.2), m.0, m.1)

  -- so both halves stand
  halves-stand : (r : Part) → Standing r → Standing (left_half f r) × Standing (right_half f r)
  unfolding gk15_of
  halves-stand r h = let m = middle-inside r h in ((h.0, m.0, m.1), (m.0, h.1, m.2))

  -- every part of every stage
  pub ordered : finite_part (gk15_of f a b) ≡ true → le a b ≡ true → (k : ℕ) → All (λ r. (le a r.lo ≡ true) × (le r.lo r.hi ≡ true) × (le r.hi b ≡ true)) (stage_after k f a b).parts
  ordered fine o k =
      all_map Standing (λ r. (le a r.lo ≡ true) × (le r.lo r.hi ≡ true) × (le r.hi b ≡ true)) (λ r h. (h.0.1, h.2, h.1.2)) (stage_after k f a b).parts
      (every-stage f (λ ps t. (0 < length ps) × All Standing ps) keeps a b fine (omega arith, (first, tt)) k).1
    where
      keeps : (ps : List Part) (t : Tally) → finite_halves f ps t ≡ true → (0 < length ps) × All Standing ps → (0 < length (split f ps t).parts) × All Standing (split f ps t).parts
      keeps ps t e h =
          let r = halves-stand (part_at ps (worst_of ps)) (all-at Standing ps (worst_of ps) (worst-inside ps h.0) h.1) in
          (omega (arith, length-split f ps t h.0), all-bisected Standing f ps h.0 r.0 r.1 h.1)

      first : Standing (gk15_of f a b)
      first = unfold gk15_of in ((p, at-most-itself A, o), (q, o, at-most-itself B), o)
