-- The root from a number c of steps that it lies on or less than 3/2 above: it is c or c + 1 of them, by their middle (`two_steps`). So with the sum of two squares (`sum-steps`), and where one of the two is far the larger it is the root (`far`). Assumes nothing.
use Rattle.std.proofs.Common.{◌≡◌, ℕ, suc, ◌+◌, ◌-◌, ◌*◌, ◌/◌, ◌^◌, ◌<◌, ◌≤◌, min, ◌⊎◌, sym, ap, ◌∙◌, inl, inr, le_trans, le_of_eq, lt_of_lt_of_le, lt_of_le_of_lt, le_of_lt, mul-le-mul_right, lt_of_mul-lt-mul_right, eq-or-lt_of_le, mul-lt-mul_of_pos_right, arith, pow_pos, pow_mono, pow-add}
use Prim.Native.Nat.{Ordering}
use Prim.Native.Nat.{compare}
use native.Mathlib.Nat.{min-eq_left, min-eq_right}
use lib.Ieee.{binary64, nearest, of_bits}
use lib.Ieee.Fits.{nearest-le}
use lib.Ieee.Nearest.{nearest-ge}
use Rattle.roots.specs.Root.{RootBits, root_of}
use Rattle.roots.specs.Patterns.{top, dropped, units_of, square_sum}
use Rattle.roots.specs.Squares.{squares, rounded_at}
use Rattle.roots.proofs.Squares.{side, four-pos, square-of, sq-le, sq-lt, lt-of-sq}
use Rattle.roots.proofs.Ladder.{Leads, place, above, rising, endless}
use Rattle.roots.proofs.Rounding.{middle, decided, compare-scaled, nearest-far, root-rung, root-beyond}

-- from infinity's pattern on
pub past : (n b r : ℕ) → top ≤ b → b ≤ r → units_of b * units_of b ≤ n → RootBits n (min r top)
past n b r u l h =
    let e : min r top ≡ top = min-eq_right (le_trans u l) in
    let t : units_of top ≤ units_of b = elim (eq-or-lt_of_le u) [ inl e ↦ le_of_eq (ap units_of e) | inr g ↦ le_of_lt (rising top b g) ] in
    record { value = rw e (endless ∙ sym (root-beyond n (le_trans (sq-le t) h))); number = omega (arith, e) }

-- ---- c steps of 2 ^ K units
module _ (n c K : ℕ) (lo : c * 2 ^ K * (c * 2 ^ K) ≤ n) (hi : 4 * n < (2 * c + 3) * 2 ^ K * ((2 * c + 3) * 2 ^ K)) (some : (K ≡ 0) ⊎ (2 ^ 52 * 2 ^ K * (2 ^ 52 * 2 ^ K) ≤ n)) (few : c < 2 ^ 53) where
  abbrev u : ℕ
  u = 2 ^ K

  abbrev mid : ℕ
  mid = (2 * c + 1) * u

  -- where the root is below x + 1 steps, x is leading digits, and so is any number above it
  leading : (x y : ℕ) → n < (x + 1) * u * ((x + 1) * u) → x ≤ y → Leads y K
  leading x y h l = elim some [
    | inl z ↦ inl z
    | inr s ↦ let g : 2 ^ 52 < x + 1 = lt_of_mul-lt-mul_right u (lt-of-sq (lt_of_le_of_lt s h)) in inr (omega arith)
  ]

  -- below c + 1 steps: c is the leading digits
  lower : n < (c + 1) * u * ((c + 1) * u) → RootBits n (min (K * 2 ^ 52 + nearest c (compare (4 * n) (mid * mid))) top)
  lower h =
      let o = compare (4 * n) (mid * mid) in
      let b = K * 2 ^ 52 + c in
      let s : suc b ≡ K * 2 ^ 52 + (c + 1) = omega arith in
      let at : units_of b ≡ c * u = place c K (leading c c h (omega arith)) (le_of_lt few) in
      let next : units_of (suc b) ≡ (c + 1) * u = ap units_of s ∙ place (c + 1) K (leading c (c + 1) h (omega arith)) (omega arith) in
      let m : middle b ≡ mid = rw (at, next) (omega arith) in
      elim (side b top) [
        | inl g ↦
            let e : min (K * 2 ^ 52 + nearest c o) top ≡ K * 2 ^ 52 + nearest c o = min-eq_left (omega (arith, nearest-le c o)) in
            let r : root_of n ≡ of_bits binary64 (nearest b (compare (4 * n) (middle b * middle b))) = root-rung n b g (rw at lo) (rw next h) in
            record { value = rw e (sym (r ∙ rw m (ap (of_bits binary64) (nearest-far c (K * 2 ^ 52) o (omega arith))))); number = omega (arith, e, nearest-le c o) }
        | inr g ↦ past n b (K * 2 ^ 52 + nearest c o) g (omega (arith, nearest-ge c o)) (rw at lo)
      ]

  -- from c + 1 steps on, and below c + 3/2
  upper : (c + 1) * u * ((c + 1) * u) ≤ n → RootBits n (min (K * 2 ^ 52 + suc c) top)
  upper h =
      let b = K * 2 ^ 52 + suc c in
      let p : 0 < u = pow_pos K in
      let two : 4 * n < (2 * c + 4) * u * ((2 * c + 4) * u) = lt_of_lt_of_le hi (sq-le (mul-le-mul_right u (omega arith))) in
      let below : n < (c + 2) * u * ((c + 2) * u) = omega (arith, two) in
      let l : Leads (suc c) K = leading (c + 1) (suc c) (omega (arith, below)) (omega arith) in
      let at : units_of b ≡ suc c * u = place (suc c) K l few in
      let wide : u ≤ 2 ^ dropped b = pow_mono (elim l [ inl z ↦ omega arith | inr g ↦ omega arith ]) in
      let up : units_of b + u ≤ units_of (suc b) = rw (above b) (omega (arith, wide)) in
      let m : (2 * c + 3) * u ≤ middle b = omega (arith, at, up) in
      let o : compare (4 * n) (middle b * middle b) ≡ Ordering.lt = decided (4 * n) (middle b * middle b) Ordering.lt (lt_of_lt_of_le hi (sq-le m)) in
      elim (side b top) [
        | inl g ↦
            let e : min b top ≡ b = min-eq_left (le_of_lt g) in
            let r : root_of n ≡ of_bits binary64 (nearest b (compare (4 * n) (middle b * middle b))) = root-rung n b g (rw at (omega (arith, h))) (lt_of_lt_of_le below (sq-le (omega (arith, at, up)))) in
            record { value = rw e (sym (r ∙ rw o)); number = omega (arith, e) }
        | inr g ↦ past n b b g (omega arith) (rw at (omega (arith, h)))
      ]

  pub two_steps : RootBits n (min (K * 2 ^ 52 + nearest c (compare (4 * n) (mid * mid))) top)
  two_steps = elim (side n ((c + 1) * u * ((c + 1) * u))) [
    | inl h ↦ lower h
    | inr h ↦
        let p : 0 < u = pow_pos K in
        let l : mid < 2 * ((c + 1) * u) = omega arith in
        let o : compare (4 * n) (mid * mid) ≡ Ordering.gt = decided (4 * n) (mid * mid) Ordering.gt (lt_of_lt_of_le (sq-lt l) (omega arith)) in
        rw o (upper h)
  ]

-- ---- the sum of two squares, in steps of 2 ^ k, made whole by 4 ^ d and 4 ^ e times as large
module _ (m w d e c k : ℕ) (lo : c * c * 4 ^ (d + k) ≤ squares m w d) (hi : 4 * squares m w d < (2 * c + 3) * (2 * c + 3) * 4 ^ (d + k)) (some : (e + d + k ≡ 0) ⊎ (2 ^ 104 * 4 ^ (d + k) ≤ squares m w d)) (few : c < 2 ^ 53) where
  abbrev K : ℕ
  K = e + d + k

  abbrev M : ℕ
  M = squares m w d

  scaled : (x : ℕ) → x * 2 ^ K * (x * 2 ^ K) ≡ x * x * 4 ^ (d + k) * 4 ^ e
  scaled x =
      let s : K ≡ d + k + e = omega arith in
      square-of x K ∙ rw (s, pow-add 4 (d + k) e) (omega arith)

  pub sum-steps : RootBits (M * 4 ^ e) (min (K * 2 ^ 52 + rounded_at m w d c k) top)
  sum-steps =
      let p = four-pos e in
      let mid = (2 * c + 1) * 2 ^ K in
      let a : 4 * (M * 4 ^ e) ≡ 4 * M * 4 ^ e = omega arith in
      let o : compare (4 * (M * 4 ^ e)) (mid * mid) ≡ compare (4 * M) ((2 * c + 1) * (2 * c + 1) * 4 ^ (d + k)) = rw (a, scaled (2 * c + 1)) (compare-scaled (4 * M) ((2 * c + 1) * (2 * c + 1) * 4 ^ (d + k)) (4 ^ e) p) in
      rw o at
      (two_steps (M * 4 ^ e) c K
      (rw (scaled c) (mul-le-mul_right (4 ^ e) lo))
      (rw (a, scaled (2 * c + 3)) (mul-lt-mul_of_pos_right hi p))
      (elim some [ inl z ↦ inl z | inr s ↦ inr (rw (scaled (2 ^ 52)) (mul-le-mul_right (4 ^ e) s)) ])
      few)

-- two numbers by their digits and exponents
pub pattern-sum : (p q : ℕ) → dropped q ≤ dropped p → square_sum p q ≡ squares (p - dropped p * 2 ^ 52) (q - dropped q * 2 ^ 52) (dropped p - dropped q) * 4 ^ dropped q
pattern-sum p q h =
    let m = p - dropped p * 2 ^ 52 in
    let w = q - dropped q * 2 ^ 52 in
    let d = dropped p - dropped q in
    let s : dropped p ≡ d + dropped q = omega arith in
    let e : 4 ^ dropped p ≡ 4 ^ d * 4 ^ dropped q = ap (λ (x : ℕ). 4 ^ x) s ∙ pow-add 4 d (dropped q) in
    rw (square-of m (dropped p), square-of w (dropped q), e) (omega arith)

-- ---- from 27 exponents on, the larger: the other's square is less than the larger's last digit adds to its square
module _ (p q : ℕ) (u : p ≤ top) (apart : q / 2 ^ 52 + 27 ≤ p / 2 ^ 52) where
  abbrev last : ℕ
  last = 2 ^ dropped p

  small : units_of q < 2 ^ 26 * last
  small =
      let f = q / 2 ^ 52 in
      let b = f * 2 ^ 52 + 2 ^ 52 in
      let l : units_of q < 2 ^ 52 * 2 ^ f = rw (place (2 ^ 52) f (inr (omega arith)) (omega arith)) at (rising q b (omega arith)) in
      let j : 52 + f ≤ 26 + dropped p = omega arith in
      lt_of_lt_of_le l (rw (pow-add 2 52 f, pow-add 2 26 (dropped p)) at (pow_mono j))

  pub far : RootBits (square_sum p q) p
  far =
      let P = units_of p in
      let Q = units_of q in
      let m = p - dropped p * 2 ^ 52 in
      let digits : 2 ^ 52 ≤ m = omega arith in
      let less : Q * Q < P * last = lt_of_lt_of_le (sq-lt small) (omega (arith, mul-le-mul_right (last * last) digits)) in
      let up : units_of (suc p) ≡ P + last = rw (above p) (omega arith) in
      let s : 4 * (P * P + Q * Q) < (P + (P + last)) * (P + (P + last)) = omega (arith, less) in
      let t : P * P + Q * Q < (P + last) * (P + last) = omega (arith, less) in
      elim (eq-or-lt_of_le u) [
        | inl e ↦ let z : min p top ≡ p = min-eq_left u in rw z at (past (square_sum p q) p p (le_of_eq (sym e)) (omega arith) (omega arith))
        | inr g ↦
            let o : compare (4 * square_sum p q) (middle p * middle p) ≡ Ordering.lt = decided (4 * square_sum p q) (middle p * middle p) Ordering.lt (rw up s) in
            record { value = sym (root-rung (square_sum p q) p g (omega arith) (rw up t) ∙ rw o); number = u }
      ]
