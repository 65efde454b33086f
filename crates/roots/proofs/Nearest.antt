-- `sqrt_of` and `hypot_of` are the nearest value of the format, by the definition that names no algorithm, and that definition leaves one value.
-- All go by patterns: what holds of the two neighbours of √n holds of all values, since the ladder rises. Assumes nothing.
use Rattle.std.proofs.Common.{◌≡◌, ℕ, zero, suc, ◌+◌, ◌*◌, ◌%◌, ◌^◌, ◌<◌, ◌≤◌, false, sym, refl, ap, ◌∙◌, inl, inr, true≢false, le_trans, lt_trans, le_of_eq, lt_of_lt_of_le, le_of_lt, eq-or-lt_of_le, mul-le-mul_left, mul-lt-mul_of_pos_right, not-le_of_lt, arith, lit<, lit≤, pow_pos}
use Prim.Native.Nat.{compare, Ordering}
use native.Mathlib.Nat.{mul-lt-mul_of_pos_left}
use mathlib.Core.Bool.{false≢true}
use lib.Ieee.{Float, nan, inf, fin, binary64, nearest, is_nan, of_bits, to_bits}
use lib.Ieee.Fits.{nearest-le}
use Rattle.std.specs.Float.{float_is_infinite}
use Rattle.roots.specs.Root.{root_of}
use Rattle.roots.specs.Hypot.{hypot_of}
use Rattle.roots.specs.Nearest.{NearestRoot, RootIsNearest, NearestIsOne, FiniteIsSized, beyond, HypotIsNearest, HypotOverflows, HypotAtEnds}
use Rattle.roots.proofs.Squares.{side, sq-le, sq-lt}
use Rattle.roots.specs.Patterns.{top, units_of}
use Rattle.roots.proofs.Ladder.{rising, level, rung, holds, written, size-value, endless}
use Rattle.roots.proofs.Rounding.{Ordered, ordered, decided, middle, root-rung, root-beyond}
use Rattle.roots.proofs.Cases.{sqrt-units, hypot-units}

-- ---- any ladder: numbers U 0, U 1, .. that rise. Of those below U m the step r is nearest to √n where √n lies on its side of the middle between it and any other
pub record Near (U : ℕ → ℕ) (m n r : ℕ) : Type 0 where
  pub above : (c : ℕ) → c < m → r < c → 4 * n ≤ (U r + U c) * (U r + U c)
  pub below : (c : ℕ) → c < r → (U r + U c) * (U r + U c) ≤ 4 * n
  pub even : (c : ℕ) → c < m → (c ≡ r → ⊥) → (U r + U c) * (U r + U c) ≡ 4 * n → r % 2 ≡ 0

module _ (U : ℕ → ℕ) (m : ℕ) (rise : (b c : ℕ) → b < c → U b < U c) where
  no_lower : (b c : ℕ) → b ≤ c → U b ≤ U c
  no_lower b c h = elim (eq-or-lt_of_le h) [ inl e ↦ le_of_eq (ap U e) | inr g ↦ le_of_lt (rise b c g) ]

  lower : (b c : ℕ) → U b < U c → b < c
  lower b c h = elim (side b c) [ inl g ↦ g | inr g ↦ absurd (not-le_of_lt h (no_lower c b g)) ]

  -- two neighbours that √n lies between; s is twice their middle
  module _ (n b : ℕ) (lo : U b * U b ≤ n) (hi : n < U (suc b) * U (suc b)) where
    abbrev s : ℕ
    s = U b + U (suc b)

    down-above : (c : ℕ) → b < c → s * s ≤ (U b + U c) * (U b + U c)
    down-above c h = sq-le (omega (arith, no_lower (suc b) c h))

    down-below : (c : ℕ) → c < b → (U b + U c) * (U b + U c) < 4 * n
    down-below c h = let l : U b + U c < 2 * U b = omega (arith, rise c b h) in omega (arith, sq-lt l)

    up_above : (c : ℕ) → suc b < c → 4 * n < (U (suc b) + U c) * (U (suc b) + U c)
    up_above c h = let l : 2 * U (suc b) ≤ U (suc b) + U c = omega (arith, rise (suc b) c h) in omega (arith, sq-le l)

    up-below : (c : ℕ) → c < suc b → (U (suc b) + U c) * (U (suc b) + U c) ≤ s * s
    up-below c h = sq-le (omega (arith, no_lower c b (omega arith)))

    down : 4 * n ≤ s * s → (4 * n ≡ s * s → b % 2 ≡ 0) → Near U m n b
    down l e = record {
      above = λ c w h. le_trans l (down-above c h);
      below = λ c h. le_of_lt (down-below c h);
      even = λ c w ne t. elim (side b c) [ inl h ↦ e (omega (arith, down-above c h)) | inr h ↦ absurd (omega (arith, down-below c (omega arith))) ];
    }

    up : s * s ≤ 4 * n → (4 * n ≡ s * s → suc b % 2 ≡ 0) → Near U m n (suc b)
    up l e = record {
      above = λ c w h. le_of_lt (up_above c h);
      below = λ c h. le_trans (up-below c h) l;
      even = λ c w ne t. elim (side c (suc b)) [ inl h ↦ e (omega (arith, up-below c h)) | inr h ↦ absurd (omega (arith, up_above c (omega arith))) ];
    }

    near : (o : Ordering) → Ordered (4 * n) (s * s) o → Near U m n (nearest b o)
    near Ordering.lt h = down (le_of_lt h) (λ e. absurd (omega arith))
    near Ordering.eq h = elim (side (b % 2) 1) [
      | inl l ↦ let z : b + b % 2 ≡ b = omega arith in rw z (down (le_of_eq h) (λ e. omega arith))
      | inr l ↦ let z : b + b % 2 ≡ suc b = omega arith in rw z (up (le_of_eq (sym h)) (λ e. omega arith))
    ]
    near Ordering.gt h = up (le_of_lt h) (λ e. absurd (omega arith))

  -- √n lies between two neighbours
  between : (c n : ℕ) → n < U c * U c → U 0 ≡ 0 → (b : ℕ) × (b < c) × (U b * U b ≤ n) × (n < U (suc b) * U (suc b))
  between zero n h z = absurd (omega (arith, rw z at h))
  between (suc c) n h z = elim (side n (U c * U c)) [
    | inl g ↦ let r = between c n g z in (r.0, omega (arith, r.1), r.2, r.3)
    | inr g ↦ (c, omega arith, g, h)
  ]

  -- two steps that are both nearest are one
  apart : (n b c : ℕ) → c < m → b < c → Near U m n b → Near U m n c → ⊥
  apart n b c w h r s =
      let t : (U b + U c) * (U b + U c) ≡ 4 * n = omega (arith, r.above c w h, s.below b h) in
      elim (eq-or-lt_of_le h) [
        | inl e ↦ omega (arith, r.even c w (omega arith) t, s.even b (omega arith) (omega arith) (omega arith))
        | inr g ↦ let l : U b + U (suc b) < U b + U c = omega (arith, rise (suc b) c g) in omega (arith, r.above (suc b) (omega arith) (omega arith), sq-lt l)
      ]

-- ---- the ladder of the values
to_values : (n r : ℕ) → r < top → Near units_of top n r → NearestRoot n (of_bits binary64 r) (units_of r)
to_values n r u N = record {
  holds = holds r u;
  above = λ y Y h l. let s = rung y Y h in rw s.units (N.above (to_bits binary64 y) s.below (lower units_of top rising r (to_bits binary64 y) (rw s.units at l)));
  below = λ y Y h l. let s = rung y Y h in rw s.units (N.below (to_bits binary64 y) (lower units_of top rising (to_bits binary64 y) r (rw s.units at l)));
  even = λ y Y h ne t. let s = rung y Y h in rw (written r u) (N.even (to_bits binary64 y) s.below (λ e. ne (s.units ∙ ap units_of e)) (rw s.units at t));
}

from-values : (n : ℕ) (r : Float) (R : ℕ) → NearestRoot n r R → Near units_of top n (to_bits binary64 r)
from-values n r R N =
    let s = rung r R N.holds in
    let b = to_bits binary64 r in
    record {
      above = λ c w h. rw s.units at (N.above (of_bits binary64 c) (units_of c) (holds c w) (rw s.units (rising b c h)));
      below = λ c h. rw s.units at (N.below (of_bits binary64 c) (units_of c) (holds c (lt_trans h s.below)) (rw s.units (rising c b h)));
      even = λ c w ne t. N.even (of_bits binary64 c) (units_of c) (holds c w) (λ e. ne (level c b (e ∙ s.units))) (rw s.units t);
    }

-- ---- the root of n units: the nearest value, or infinity
-- the largest value's pattern: its middle with the next decides, and it is odd, so that a tie goes up
abbrev last : ℕ
last = 0x7fef_ffff_ffff_ffff

pub root-nearest : (n : ℕ) → n < beyond → (R : ℕ) × NearestRoot n (root_of n) R
root-nearest n h =
    let d = between units_of top rising top n (lt_of_lt_of_le h (lit≤ tt)) refl in
    let b = d.0 in
    let o = compare (4 * n) (middle b * middle b) in
    let e : root_of n ≡ of_bits binary64 (nearest b o) = root-rung n b d.1 d.2 d.3 in
    let N = near units_of top rising n b d.2 d.3 o (ordered (4 * n) (middle b * middle b)) in
    (units_of (nearest b o), rw e (to_values n (nearest b o) (inside b d.1) N))
  where
    inside : (b : ℕ) → b < top → nearest b (compare (4 * n) (middle b * middle b)) < top
    inside b u = elim (side b last) [
      | inl g ↦ omega (arith, nearest-le b (compare (4 * n) (middle b * middle b)))
      | inr g ↦
          let e : b ≡ last = omega arith in
          rw (e, decided (4 * n) (middle last * middle last) Ordering.lt (mul-lt-mul_of_pos_left h (lit< tt))) (lit< tt)
    ]

pub root-overflows : (n : ℕ) → beyond ≤ n → root_of n ≡ inf false
root-overflows n h = elim (side n (units_of top * units_of top)) [
  | inl g ↦ root-rung n last (lit< tt) (le_trans (lit≤ tt) h) g ∙ go (compare (4 * n) (middle last * middle last)) (ordered (4 * n) (middle last * middle last))
  | inr g ↦ root-beyond n g
]
  where
    go : (o : Ordering) → Ordered (4 * n) (middle last * middle last) o → of_bits binary64 (nearest last o) ≡ inf false
    go Ordering.lt l = absurd (not-le_of_lt l (mul-le-mul_left 4 h))
    go Ordering.eq l = endless
    go Ordering.gt l = endless

pub root-is-nearest : RootIsNearest
root-is-nearest x a h p =
    let s = rung x a h in
    let l : a < 2 ^ 2098 = rw s.units (rising (to_bits binary64 x) top s.below) in
    rw (sqrt-units x a p h.1) (root-nearest (a * 2 ^ 1074) (lt_of_lt_of_le (mul-lt-mul_of_pos_right l (pow_pos 1074)) (lit≤ tt)))

-- ---- hypot
pub finite-is-sized : FiniteIsSized
finite-is-sized x F h = (units_of (to_bits binary64 x % 2 ^ 63), record { sign = _; value = size-value x F h })

pub hypot-is-nearest : HypotIsNearest
hypot-is-nearest x y A B s t h = rw (hypot-units x y A B s t) (root-nearest (A * A + B * B) h)

pub hypot-overflows : HypotOverflows
hypot-overflows x y A B s t h = hypot-units x y A B s t ∙ root-overflows (A * A + B * B) h

pub hypot-at-ends : HypotAtEnds
unfolding hypot_of is_nan float_is_infinite
hypot-at-ends nan nan = (λ h. absurd (false≢true h), λ h k. refl)
hypot-at-ends nan (inf t) = (λ h. refl, λ h. absurd (true≢false h))
hypot-at-ends nan (fin t n d) = (λ h. absurd (false≢true h), λ h k. refl)
hypot-at-ends (inf s) y = (λ h. refl, λ h. absurd (true≢false h))
hypot-at-ends (fin s m e) nan = (λ h. absurd (false≢true h), λ h k. refl)
hypot-at-ends (fin s m e) (inf t) = (λ h. refl, λ h. absurd (true≢false h))
hypot-at-ends (fin s m e) (fin t n d) = (λ h. absurd (false≢true h), λ h k. absurd (false≢true k))

-- ---- one nearest value
pub nearest-is-one : NearestIsOne
nearest-is-one n r s R S a b =
    let c = to_bits binary64 r in
    let d = to_bits binary64 s in
    let u = rung r R a.holds in
    let v = rung s S b.holds in
    let l : c < d → ⊥ = λ h. apart units_of top rising n c d v.below h (from-values n r R a) (from-values n s S b) in
    let g : d < c → ⊥ = λ h. apart units_of top rising n d c u.below h (from-values n s S b) (from-values n r R a) in
    let e : c ≡ d = omega arith in
    u.value ∙ ap (of_bits binary64) e ∙ sym v.value
