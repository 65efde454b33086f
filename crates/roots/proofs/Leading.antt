-- The leading digits of a sum of two squares, m² + w² / 4 ^ d, in units of 2 ^ 44 (`leading-is`). Nothing here is about floats. Assumes nothing.
-- Those of m² are p = m² / 2 ^ 44. b is w / 2 ^ d in units of 2 ^ -10, and q = b² / 2 ^ 64. The two quotients leave out less than 1 each, and b what makes less than 1 more.
use Rattle.std.proofs.Common.{◌≡◌, ℕ, ◌+◌, ◌-◌, ◌*◌, ◌/◌, ◌^◌, ◌<◌, ◌≤◌, ap, mul-le-mul_right, mul-le-mul_left, div-mul-le_self, add-one, arith, pow_pos}
use native.Mathlib.Nat.{lt-div-mul-add, pow-succ'}
use Rattle.roots.specs.Squares.{Leading}
use Rattle.roots.proofs.Squares.{sq-le, sq-lt, four-power}

module _ (m w d b p q : ℕ) (few : b < 2 ^ 63) where
  abbrev D : ℕ
  D = 2 ^ d

  module _ (p-more : p * 2 ^ 44 ≤ m * m) (q-more : q * 2 ^ 64 ≤ b * b) where
    sum_below : m < 2 ^ 53 → p + q < 2 ^ 63
    sum_below h =
        let x : m ≤ 2 ^ 53 - 1 = omega arith in
        let y : b ≤ 2 ^ 63 - 1 = omega arith in
        omega (arith, sq-le x, sq-le y)

    sum_low : b * D ≤ w * 2 ^ 10 → (p + q) * 2 ^ 44 * (D * D) ≤ m * m * (D * D) + w * w
    sum_low h =
        let x : p * 2 ^ 44 * (D * D) ≤ m * m * (D * D) = mul-le-mul_right (D * D) p-more in
        let y : q * 2 ^ 64 * (D * D) ≤ b * b * (D * D) = mul-le-mul_right (D * D) q-more in
        omega (arith, x, y, sq-le h)

  module _ (p-less : m * m < (p + 1) * 2 ^ 44) (q-less : b * b < (q + 1) * 2 ^ 64) where
    sum-from : 2 ^ 52 ≤ m → 2 ^ 60 ≤ p + q
    sum-from h = omega (arith, sq-le h)

    sum-high : w * 2 ^ 10 < (b + 1) * D → m * m * (D * D) + w * w < (p + q + 3) * 2 ^ 44 * (D * D)
    sum-high h =
        let x : m * m * (D * D) ≤ (p + 1) * 2 ^ 44 * (D * D) = mul-le-mul_right (D * D) (omega arith) in
        let y : (b + 1) * (b + 1) * (D * D) ≤ (q + 2) * 2 ^ 64 * (D * D) = mul-le-mul_right (D * D) (omega arith) in
        omega (arith, x, y, sq-lt h)

module _ (m w d : ℕ) (from : 2 ^ 52 ≤ m) (below : m < 2 ^ 53) (few : w < 2 ^ 53) where
  abbrev b : ℕ
  b = w * 2048 / 2 ^ (d + 1)

  next : 2 ^ (d + 1) ≡ 2 * 2 ^ d
  next = rw (add-one d) (pow-succ' 2 d)

  moved : b * 2 ^ (d + 1) ≡ b * (2 * 2 ^ d)
  moved = ap (λ (x : ℕ). b * x) next

  b-more : b * 2 ^ d ≤ w * 2 ^ 10
  b-more = omega (arith, moved, div-mul-le_self (w * 2048) (2 ^ (d + 1)))

  b-less : w * 2 ^ 10 < (b + 1) * 2 ^ d
  b-less = omega (arith, moved, next, lt-div-mul-add {a = w * 2048} (pow_pos (d + 1)))

  b-below : b < 2 ^ 63
  b-below = let s : b * 1 ≤ b * 2 ^ d = mul-le-mul_left b (pow_pos d) in omega (arith, s, b-more)

  -- u and q are the upper halves of the code's products
  pub leading-is : (u q : ℕ) → u ≡ m * 2048 * (m * 2048) / 2 ^ 64 → q ≡ b * b / 2 ^ 64 → Leading m w d (u / 4 + q)
  leading-is u q e f =
      let p = u / 4 in
      let p-more : p * 2 ^ 44 ≤ m * m = omega arith in
      let p-less : m * m < (p + 1) * 2 ^ 44 = omega arith in
      let q-more : q * 2 ^ 64 ≤ b * b = omega arith in
      let q-less : b * b < (q + 1) * 2 ^ 64 = omega arith in
      record {
        from = sum-from m w d b p q b-below p-less q-less from;
        below = sum_below m w d b p q b-below p-more q-more below;
        low = rw (four-power d) (sum_low m w d b p q b-below p-more q-more b-more);
        high = rw (four-power d) (sum-high m w d b p q b-below p-less q-less b-less);
      }
