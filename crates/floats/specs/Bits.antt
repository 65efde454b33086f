-- Numbers from bytes, the least first. A float's bit pattern is lib.Ieee's `to_bits`, which writes 0x7ff8000000000000 for a NaN. Definitions only. Assumes nothing.
use Rattle.std.specs.Prelude.{ℕ, zero, suc, ◌+◌, ◌*◌, List, get_or, Float}
use Rattle.floats.specs.Words.{float}

-- the number that k bytes of s from i on stand for, the least byte first
unfoldable pub little_endian : ℕ → List ℕ → ℕ → ℕ
little_endian zero s i = 0
little_endian (suc k) s i = get_or s i 0 + 256 * little_endian k s (i + 1)

-- the float whose pattern stands in eight bytes, a NaN's pattern too
abbrev pub float_at : List ℕ → ℕ → Float
float_at s i = float (little_endian 8 s i)
