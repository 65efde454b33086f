-- The values from 0 up by their bits. A pattern b below infinity's stands for `units_of b` units of 2 ^ -1074, and infinity's for 2 ^ 2098, the value that would come next.
-- Definitions only. Assumes nothing.
use Rattle.std.specs.Prelude.{◌≡◌, ℕ, ◌+◌, ◌-◌, ◌*◌, ◌/◌, ◌^◌, ◌<◌, ◌≤◌}

-- infinity's pattern
abbrev pub top : ℕ
top = 0x7ff0_0000_0000_0000

-- how many digits are dropped, k, and the value in units: b is k * 2 ^ 52 + q, with the digits q
abbrev pub dropped : ℕ → ℕ
dropped b = b / 2 ^ 52 - 1

abbrev pub units_of : ℕ → ℕ
units_of b = (b - dropped b * 2 ^ 52) * 2 ^ dropped b

-- P² + Q², where p and q are the bits of P and Q
abbrev pub square_sum : ℕ → ℕ → ℕ
square_sum p q = units_of p * units_of p + units_of q * units_of q

-- b stands for m * 2 ^ e units; m has all digits that the format keeps, or e is 0
pub record Fields (b m e : ℕ) : Type 0 where
  pub digits : m ≡ b - dropped b * 2 ^ 52
  pub exponent : e ≡ dropped b
  pub below : m < 2 ^ 53
  pub normal : 2 ^ 52 ≤ b → 2 ^ 52 ≤ m
