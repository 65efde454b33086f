-- The sum of two squares m² + w² / 4 ^ d, exactly and by its leading digits: what the inner functions of hypot say of it. m and w are the digits of two numbers, and d is how far their exponents are apart.
-- Definitions only. Assumes nothing.
use Rattle.std.specs.Prelude.{◌≡◌, ℕ, suc, ◌+◌, ◌*◌, ◌^◌, ◌<◌, ◌≤◌}
use Prim.Native.Nat.{compare}
use Rattle.std.specs.Float.Ieee.{nearest}

-- that sum, made whole by 4 ^ d
abbrev pub squares : ℕ → ℕ → ℕ → ℕ
squares m w d = m * m * 4 ^ d + w * w

-- s is its leading digits, in units of 2 ^ 44: the sum lies from s to below s + 3 of them
pub record Leading (m w d s : ℕ) : Type 0 where
  pub from : 2 ^ 60 ≤ s
  pub below : s < 2 ^ 63
  pub low : s * 2 ^ 44 * 4 ^ d ≤ squares m w d
  pub high : squares m w d < (s + 3) * 2 ^ 44 * 4 ^ d

-- c or c + 1, by how the sum compares with the square of their middle, (c + 1/2)², k places up; both are four times as large, and made whole. A tie goes to the even one.
abbrev pub rounded_at : ℕ → ℕ → ℕ → ℕ → ℕ → ℕ
rounded_at m w d c k = nearest c (compare (4 * squares m w d) ((2 * c + 1) * (2 * c + 1) * 4 ^ (d + k)))

-- c is the root of the sum from below, by less than 3/2, in steps of 2 ^ k, and has 53 digits at most. Where `test` is above `base` the sum is above the square of the middle of c and c + 1; where it is below by 3 * 2 ^ 44 or more, the sum is below that.
pub record RootBelow (m w d c k base test : ℕ) : Type 0 where
  pub one : k ≤ 1
  pub few : c < 2 ^ 53
  pub from : 2 ^ 104 * 4 ^ (d + k) ≤ squares m w d
  pub low : c * c * 4 ^ (d + k) ≤ squares m w d
  pub high : 4 * squares m w d < (2 * c + 3) * (2 * c + 3) * 4 ^ (d + k)
  pub up : base < test → rounded_at m w d c k ≡ suc c
  pub down : test + 3 * 2 ^ 44 ≤ base → rounded_at m w d c k ≡ c
