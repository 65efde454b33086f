-- `sqrt_of` and `hypot_of` at worked examples, by computation. Assumes nothing.
use Rattle.std.proofs.Common.{◌≡◌, true, false, refl}
use lib.Ieee.{nan, inf, neg, of_bits}
use Rattle.floats.specs.Words.{float, plus_zero, minus_zero, one, two}
use Rattle.roots.specs.Root.{sqrt_of}
use Rattle.roots.specs.Hypot.{hypot_of}

four : sqrt_of (float 0x4010000000000000) ≡ two
unfolding sqrt_of of_bits
four = refl

root-of-two : sqrt_of two ≡ float 0x3ff6a09e667f3bcd
unfolding sqrt_of of_bits
root-of-two = refl

-- the smallest value, 2 ^ -1074, has the root 2 ^ -537
smallest : sqrt_of (float 1) ≡ float 0x1e60000000000000
unfolding sqrt_of of_bits
smallest = refl

largest : sqrt_of (float 0x7fefffffffffffff) ≡ float 0x5fefffffffffffff
unfolding sqrt_of of_bits
largest = refl

zeros : (sqrt_of plus_zero ≡ plus_zero) × (sqrt_of minus_zero ≡ minus_zero)
unfolding sqrt_of of_bits neg
zeros = (refl, refl)

minus_one_lem : sqrt_of (neg one) ≡ nan
unfolding sqrt_of of_bits neg
minus_one_lem = refl

endless : (sqrt_of (inf false) ≡ inf false) × (sqrt_of (inf true) ≡ nan) × (sqrt_of nan ≡ nan)
unfolding sqrt_of
endless = (refl, refl, refl)

-- ---- hypot: 3 and -4; 1 and 1; the smallest value twice, √2 units, which is nearer to 1 of them; 2 ^ -600 and 2 ^ 600 of the first pair
three-four : hypot_of (float 0x4008000000000000) (float 0xc010000000000000) ≡ float 0x4014000000000000
unfolding hypot_of of_bits
three-four = refl

diagonal : hypot_of one one ≡ float 0x3ff6a09e667f3bcd
unfolding hypot_of of_bits
diagonal = refl

least-twice : hypot_of (float 1) (float 1) ≡ float 1
unfolding hypot_of of_bits
least-twice = refl

far-down : hypot_of (float 0x1a88000000000000) (float 0x1a90000000000000) ≡ float 0x1a94000000000000
unfolding hypot_of of_bits
far-down = refl

far-up : hypot_of (float 0x6588000000000000) (float 0x6590000000000000) ≡ float 0x6594000000000000
unfolding hypot_of of_bits
far-up = refl

-- the largest value and 0; the largest twice, and beside 2 ^ 1023, which overflow; the zeros
largest-alone : hypot_of (float 0x7fefffffffffffff) minus_zero ≡ float 0x7fefffffffffffff
unfolding hypot_of of_bits neg
largest-alone = refl

largest-twice : hypot_of (float 0x7fefffffffffffff) (float 0x7fefffffffffffff) ≡ inf false
unfolding hypot_of of_bits
largest-twice = refl

past_the_end : hypot_of (float 0x7fefffffffffffff) (float 0x7fe0000000000000) ≡ inf false
unfolding hypot_of of_bits
past_the_end = refl

minus-zeros : hypot_of minus_zero minus_zero ≡ plus_zero
unfolding hypot_of of_bits neg
minus-zeros = refl

-- two ties, each to the even one; a hair above a tie, which goes up
ties : (hypot_of (float 0x3ff9b176fc4fa248) (float 0x3ff5a686af79e207) ≡ float 0x4000cca8762eaf8c) × (hypot_of (float 0x3ffbf67b78142aac) (float 0x3ffad6548d0894e7) ≡ float 0x400360fafce6cd00)
unfolding hypot_of of_bits
ties = (refl, refl)

hair-above : hypot_of (float 0x3ff3c871f436f447) (float 0x3ecbaca9b953f34d) ≡ float 0x3ff3c871f43741b5
unfolding hypot_of of_bits
hair-above = refl

-- an infinity, beside a NaN too; a NaN
no-ends : (hypot_of (inf true) nan ≡ inf false) × (hypot_of nan (inf true) ≡ inf false) × (hypot_of one (inf false) ≡ inf false) × (hypot_of nan one ≡ nan) × (hypot_of one nan ≡ nan)
unfolding hypot_of of_bits
no-ends = (refl, refl, refl, refl, refl)
