-- The guess at √(n / 64) is good for every n of its range (`guess-is-good`). Nothing here is about floats. Assumes nothing.
-- u is the line at n, near 4 √n; t is n with its last digit turned; q is the whole part of 4 t / u. So 4 q is near 16 n / u, the sum u + 4 q is twice what a round of Heron's method makes of u, and g is a 64th of it.
-- 1. It is not too small, whatever u is: the square of a sum is at least four times the product, and u * 4 (q + 1) is above 16 t.
-- 2. It is not too large, where the line is near: with w = u² and r = 16 n, u (u + 4 q) is at most w + r and a little, (w + r)² is 4 w r + (w - r)², and w - r is at most 3 * 2 ^ 18 u.
-- 3. The sum has 34 digits, so g has 28, and the | of the code changes nothing. It is not below 2 ^ 33, since every line begins above 2 ^ 32; and it is below 2 ^ 34, since no line passes 2 ^ 33 and none is far below it where n is near 2 ^ 62.
use Rattle.std.proofs.Common.{◌≡◌, ℕ, ◌+◌, ◌-◌, ◌*◌, ◌/◌, ◌%◌, ◌^◌, ◌<◌, ◌≤◌, sym, refl, ap, inl, inr, le_trans, mul-le-mul_right, mod-lt, mul-le-mul, mul-le-mul_left, div-add-mod', le_of_mul-le-mul_right, arith}
use lib.Bits.{bit_or, bit_xor, or_add_and, xor_add_and, and_high, and_mask}
use Rattle.roots.specs.Lines.{Good}
use Rattle.roots.proofs.Squares.{side, gap, sum-square}
use Rattle.roots.proofs.LineLaws.{line_at, NearLine, Inside, line-is-near, line-inside}

-- ---- the digits that the ^ and the | touch
turned : (n : ℕ) → bit_xor n 1 + n % 2 * 2 ≡ n + 1
turned n = omega (arith, xor_add_and n 1, and_mask n 1)

pub marked : (x : ℕ) → 2 ^ 27 ≤ x → x < 2 ^ 28 → bit_or x (2 ^ 27) ≡ x
marked x h k = omega (arith, or_add_and x (2 ^ 27), and_high x 1 27)

-- ---- the three steps, of any n, t beside it, and u; q is the quotient
module _ (n t u q : ℕ) (less : u * q ≤ 4 * t) (more : 4 * t < u * (q + 1)) where
  not-small : (g : ℕ) → n ≤ t + 1 → 2 ^ 32 ≤ u → u + 4 * q < 64 * (g + 1) → n < 64 * ((g + 2) * (g + 2))
  not-small g beside from up =
      let l : u + 4 * (q + 1) + 61 ≤ 64 * (g + 2) = omega arith in
      omega (arith, sum-square u (4 * (q + 1)), mul-le-mul l l)

  -- w and r, how far they are apart, and their sum in two parts: p, and what 64 u is more than 16
  square-below : (w r p e : ℕ) → w ≡ u * u → 2 ^ 32 ≤ u → gap w r ≤ 3 * 2 ^ 18 * u → p + e ≡ w + r → 63 * u ≤ e → 3 * w ≤ 2 * p → p * p ≤ 4 * (w * r)
  square-below w r p e is from near sum large most =
      let a : 3 * w * (63 * u) ≤ 2 * p * e = mul-le-mul most large in
      let b : gap w r * gap w r ≤ 3 * 2 ^ 18 * u * (3 * 2 ^ 18 * u) = mul-le-mul near near in
      let c : 2 ^ 32 * w ≤ u * w = mul-le-mul_right w from in
      let d : (p + e) * (p + e) ≡ (w + r) * (w + r) = ap (λ (x : ℕ). x * x) sum in
      let s : u * u ≡ w = sym is in
      omega (arith, a, b, c, d, s, sum-square w r)

  not-large : (a : ℕ) → t ≤ n + 1 → 2 ^ 32 ≤ u → NearLine n u → 64 * (a + 1) ≤ u + 4 * q → 64 * (a * a) ≤ n
  not-large a beside from near down =
      let w = u * u in
      let r = 16 * n in
      let e = 64 * u - 16 in
      let p = w + r - e in
      let k : 2 ^ 32 * u ≤ w = mul-le-mul_right u from in
      let s : p * p ≤ 4 * (w * r) = square-below w r p e refl from (omega (arith, near.above, near.under)) (omega arith) (omega arith) (omega (arith, near.under)) in
      let l : 64 * a * u ≤ p = omega (arith, mul-le-mul_right u down) in
      let c : 64 * (a * a) * w ≤ n * w = omega (arith, le_trans (mul-le-mul l l) s) in
      le_of_mul-le-mul_right c (omega arith)

  sum-from : 2 ^ 60 ≤ t + 1 → 2 ^ 32 + 2 ^ 18 ≤ u → 2 ^ 33 ≤ u + 4 * q
  sum-from low from = elim (side (u + 4 * q) (2 ^ 33)) [
    | inl h ↦
        let b = 4 * (q + 1) in
        let s : u + b ≤ 2 ^ 33 + 3 = omega arith in
        let t : 2 ^ 19 - 3 ≤ gap u b = omega arith in
        absurd (omega (arith, sum-square u b, mul-le-mul s s, mul-le-mul t t))
    | inr h ↦ h
  ]

  -- d is how far the line is below 2 ^ 33, so u * (2 ^ 34 - u) is 2 ^ 66 - d²; and it is 2 ^ 10 y at most, where y of the 2 ^ 23 steps of n are left
  sum_below : t ≤ n + 1 → t < 2 ^ 62 → Inside n u → u + 4 * q < 2 ^ 34
  sum_below beside low i = elim (side (u + 4 * q) (2 ^ 34)) [
    | inl h ↦ h
    | inr h ↦
        let d = 2 ^ 33 - u in
        let y = 2 ^ 23 - 1 - n / 2 ^ 39 in
        let s : u + d ≡ 2 ^ 33 = omega (arith, i.most) in
        let l : (u + d) * (u + d) ≡ 2 ^ 33 * 2 ^ 33 = ap (λ (x : ℕ). x * x) s in
        let f : u * (u + 2 * d) ≤ u * (4 * q) = mul-le-mul_left u (omega arith) in
        let g : 16 * (2 ^ 62 - t) ≤ d * d = omega (arith, l, f) in
        let c : d * d ≤ 2 ^ 10 * y * 2 ^ 32 = mul-le-mul (omega (arith, i.chord)) (omega (arith, i.from)) in
        absurd (omega (arith, g, c))
  ]

-- ---- the guess
abbrev pub guess_of : ℕ → ℕ
guess_of n = (line_at n + 4 * (bit_xor n 1 * 4 / line_at n)) / 64

module _ (n : ℕ) (from : 2 ^ 60 ≤ n) (below : n < 2 ^ 62) where
  abbrev u : ℕ
  u = line_at n

  abbrev t : ℕ
  t = bit_xor n 1

  abbrev q : ℕ
  q = t * 4 / u

  inside : Inside n u
  inside = line-inside n from below

  less : u * q ≤ 4 * t
  less = omega (arith, div-add-mod' (t * 4) u)

  more : 4 * t < u * (q + 1)
  more = let z : 0 < u = omega (arith, inside.from) in omega (arith, div-add-mod' (t * 4) u, mod-lt (t * 4) z)

  pub turned-below : t < 2 ^ 62
  turned-below = omega (arith, turned n)

  pub sum-range : (2 ^ 33 ≤ u + 4 * q) × (u + 4 * q < 2 ^ 34)
  sum-range = (sum-from n t u q less more (omega (arith, turned n)) inside.from, sum_below n t u q less more (omega (arith, turned n)) turned-below inside)

  pub guess-is-good : Good n (guess_of n)
  guess-is-good =
      let g = guess_of n in
      let large : 2 ^ 32 ≤ u = omega (arith, inside.from) in
      record {
        from = omega (arith, sum-range.0);
        below = omega (arith, sum-range.1);
        low = not-large n t u q less more (g - 1) (omega (arith, turned n)) large (line-is-near n from below) (omega (arith, sum-range.0));
        high = not-small n t u q less more g (omega (arith, turned n)) large (omega arith);
      }
