-- The digits of a root from below, from a good guess at its first ones, by one division (`root-is-near`). Nothing here is about floats.
-- The guess g is near √(n / 64), and a is g - 1. What n has above 64 a², `left`, times 2 ^ 25 is b * 64 (2 a + 3) and a rest: so √(n * 2 ^ 44) is near c = a * 2 ^ 25 + b, and
-- n * 2 ^ 44 - c² is b * (3 * 2 ^ 25 - b) and 2 ^ 19 rests. That is not negative; the product is at most 9 * 2 ^ 48, and the rests are not much above 2 a * 2 ^ 25: so it is far below 3 c. Assumes nothing.
use Rattle.std.proofs.Common.{◌≡◌, ℕ, ◌+◌, ◌-◌, ◌*◌, ◌/◌, ◌%◌, ◌^◌, ◌<◌, ◌≤◌, sym, ap, ◌∙◌, mod-lt, lt_of_mul-lt-mul_right, div-add-mod', mul-add, arith}
use Rattle.roots.specs.Lines.{Good, NearBelow}
use Rattle.roots.proofs.Squares.{lt-of-sq, sum-square}

-- ---- b and what 3 * 2 ^ 25 - 1 has above it
module _ (b : ℕ) (few : b < 3 * 2 ^ 25) where
  cut : b * (3 * 2 ^ 25 - 1 - b) + b * b ≡ b * (3 * 2 ^ 25 - 1)
  cut = let e : 3 * 2 ^ 25 - 1 - b + b ≡ 3 * 2 ^ 25 - 1 = omega arith in sym (mul-add b (3 * 2 ^ 25 - 1 - b) b) ∙ ap (λ (x : ℕ). b * x) e

  -- a product is at most a fourth of the square of the sum
  product-below : b * (3 * 2 ^ 25 - 1 - b) < 9 * 2 ^ 48
  product-below =
      let d = 3 * 2 ^ 25 - 1 - b in
      let e : b + d ≡ 3 * 2 ^ 25 - 1 = omega arith in
      let s : (b + d) * (b + d) ≡ (3 * 2 ^ 25 - 1) * (3 * 2 ^ 25 - 1) = ap (λ (x : ℕ). x * x) e in
      omega (arith, s, sum-square b d)

-- what the code compares with a * 2 ^ 25
abbrev pub test : ℕ → ℕ → ℕ
test b rest = b * (3 * 2 ^ 25 - 1 - b) + rest * 2 ^ 19

-- ---- c is near
module _ (n a b left rest : ℕ) (some : n ≡ 8 * a * (8 * a) + left) (parts : b * (128 * (a + 1) + 64) + rest ≡ left * 2 ^ 25) (less : rest < 128 * (a + 1) + 64) (few : b < 3 * 2 ^ 25) (large : 2 ^ 27 ≤ a + 1) where
  near-below : NearBelow n (a * 2 ^ 25 + b) (a * 2 ^ 25) (test b rest)
  near-below = record {
    low = omega (arith, some, parts, cut b few);
    high = omega (arith, some, parts, cut b few, product-below b few);
    apart = omega (arith, some, parts, cut b few);
  }

-- ---- the division
module _ (n g : ℕ) (good : Good n g) where
  abbrev a : ℕ
  a = g - 1

  abbrev left : ℕ
  left = n - 8 * a * (8 * a)

  abbrev wide : ℕ
  wide = 128 * g + 64

  abbrev b : ℕ
  b = left * 2 ^ 25 / wide

  abbrev rest : ℕ
  rest = left * 2 ^ 25 % wide

  one : a + 1 ≡ g
  one = omega (arith, good.from)

  some : n ≡ 8 * a * (8 * a) + left
  some = omega (arith, good.low)

  pub left_below : left < 3 * wide
  left_below = let h : n < 64 * ((a + 1 + 2) * (a + 1 + 2)) = rw one good.high in omega (arith, h, some, one)

  parts : b * wide + rest ≡ left * 2 ^ 25
  parts = div-add-mod' (left * 2 ^ 25) wide

  rest_below : rest < wide
  rest_below = mod-lt (left * 2 ^ 25) (omega arith)

  pub quotient-below : b < 3 * 2 ^ 25
  quotient-below = lt_of_mul-lt-mul_right wide (omega (arith, parts, left_below))

  pub root-is-near : NearBelow n (a * 2 ^ 25 + b) (a * 2 ^ 25) (test b rest)
  root-is-near = near-below n a b left rest some (rw one parts) (rw one rest_below) quotient-below (rw one good.from)

-- the digits are 53 at most
pub digits-below : {n c base test : ℕ} → n < 2 ^ 62 → NearBelow n c base test → c < 2 ^ 53
digits-below below near = lt-of-sq (omega (arith, near.low))
