-- What the step lists take from and make of bit patterns, and the constants that several of them share.
-- A pattern is a sign, an exponent field of 11 digits that counts from 1023, and the 52 digits below the leading one (lib.Ieee's toBits and ofBits).
-- Definitions only. Assumes nothing.
use Rattle.std.specs.Prelude.{ℕ, ◌+◌, ◌-◌, ◌*◌, ◌/◌, ◌%◌, ◌^◌, pos, Float}
use Rattle.std.specs.Float.{binary64}
use Rattle.std.specs.Float.Ieee.{neg, of_int}
use Rattle.floats.specs.Words.{◌⊘◌, float, plus_zero, one}

-- 2 ^ (j - 1023), for an exponent field j from 1 to 2046; +0 at 0, +infinity at 2047
abbrev pub two_to : ℕ → Float
two_to j = float (j % 2048 * 2 ^ 52)

-- The exponent field of a pattern, as a number.
abbrev pub field_of : ℕ → Float
field_of b = of_int binary64 (pos (b / 2 ^ 52 % 2048))

-- The pattern of √½.
abbrev pub root_half : ℕ
root_half = 0x3fe6a09e667f3bcd

-- A pattern without its sign, raised by the distance from √½'s pattern to 1's. So its field goes up at √2 * 2 ^ k, where it went up at 2 ^ (k + 1).
abbrev pub raised : ℕ → ℕ
raised b = b % 2 ^ 63 + (0x3ff0000000000000 - root_half)

-- The digits of a raised pattern, as a number from √½ to below √2.
abbrev pub digits_of : ℕ → Float
digits_of b = float (b % 2 ^ 52 + root_half)

-- 1/2, +infinity, -infinity and NaN
abbrev pub half : Float
half = float 0x3fe0000000000000

abbrev pub plus_infinity : Float
plus_infinity = one ⊘ plus_zero

abbrev pub minus_infinity : Float
minus_infinity = neg one ⊘ plus_zero

abbrev pub no_number : Float
no_number = plus_zero ⊘ plus_zero
