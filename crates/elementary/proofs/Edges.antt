-- The values at the edges, and one inside, by computation: each definition is run. Assumes nothing.
use Rattle.std.proofs.Common.{◌≡◌, true, false, refl}
use lib.Ieee.{Float, nan, inf, neg, add, sub, mul, div, lt, le, eq, ne, of_bits, to_bits, of_int}
use Rattle.roots.specs.Root.{sqrt_of}
use Rattle.floats.specs.Words.{float, plus_zero, minus_zero, one, two}
use Rattle.elementary.specs.Exp.{exp_of}
use Rattle.elementary.specs.Ln.{ln_of, ln1p_by, ln1p_of}
use Rattle.elementary.specs.Atan.{angle_far, atan_size, atan_by, atan_of}
use Rattle.elementary.specs.Sin.{sin_of}
use Rattle.elementary.specs.Points.{points}
use Rattle.elementary.specs.Near.{place_of, angle_rest, angle_near, log_near}
use Rattle.floats.specs.Signs.{minus}
use Rattle.elementary.specs.Patterns.{half}
use Rattle.elementary.specs.Tails.{half_tail, lower_tail, upper_tail}
use Rattle.elementary.specs.declared.NormalLaw.{NormalLaw}

-- the smallest and the largest positive number
abbrev smallest : Float
smallest = float 1

abbrev largest : Float
largest = float 0x7fefffffffffffff

-- The last two: 709.782712893384 is the last whose power is finite, -745.1332191019412 the last whose power is not 0.
pub exp-edges : (exp_of nan ≡ nan) × (exp_of (inf false) ≡ inf false) × (exp_of (inf true) ≡ plus_zero) × (exp_of plus_zero ≡ one) × (exp_of minus_zero ≡ one)
    × (exp_of one ≡ float 0x4005bf0a8b145769) × (exp_of largest ≡ inf false) × (exp_of (neg largest) ≡ plus_zero) × (exp_of smallest ≡ one)
unfolding exp_of add sub mul div lt neg of_bits to_bits
exp-edges = (refl, refl, refl, refl, refl, refl, refl, refl, refl)

pub exp-ends : (exp_of (float 0x40862e42fefa39ef) ≡ float 0x7fefffffffffff2a) × (exp_of (float 0x40862e42fefa39f0) ≡ inf false)
    × (exp_of (float 0xc0874910d52d3051) ≡ smallest) × (exp_of (float 0xc0874910d52d3052) ≡ plus_zero)
unfolding exp_of add sub mul div lt neg of_bits to_bits
exp-ends = (refl, refl, refl, refl)

pub ln-edges : (ln_of nan ≡ nan) × (ln_of (inf false) ≡ inf false) × (ln_of (inf true) ≡ nan) × (ln_of plus_zero ≡ inf true) × (ln_of minus_zero ≡ inf true)
    × (ln_of (neg one) ≡ nan) × (ln_of (neg smallest) ≡ nan) × (ln_of one ≡ plus_zero) × (ln_of smallest ≡ float 0xc0874385446d71c3) × (ln_of largest ≡ float 0x40862e42fefa39ef)
unfolding ln_of add sub mul div lt le eq neg of_bits to_bits of_int
ln-edges = (refl, refl, refl, refl, refl, refl, refl, refl, refl, refl)

pub ln1p-edges : (ln1p_of nan ≡ nan) × (ln1p_of (inf false) ≡ inf false) × (ln1p_of (inf true) ≡ nan) × (ln1p_of plus_zero ≡ plus_zero) × (ln1p_of minus_zero ≡ minus_zero)
    × (ln1p_of (neg one) ≡ inf true) × (ln1p_of (neg two) ≡ nan) × (ln1p_of smallest ≡ smallest) × (ln1p_of one ≡ float 0x3fe62e42fefa39ef) × (ln1p_of largest ≡ float 0x40862e42fefa39ef)
unfolding ln1p_of ln1p_by points place_of log_near add sub mul div lt le eq neg of_bits to_bits of_int
ln1p-edges = (refl, refl, refl, refl, refl, refl, refl, refl, refl, refl)

-- pi/2 and pi/4
pub atan-edges : (atan_of nan ≡ nan) × (atan_of (inf false) ≡ float 0x3ff921fb54442d18) × (atan_of (inf true) ≡ float 0xbff921fb54442d18) × (atan_of plus_zero ≡ plus_zero)
    × (atan_of minus_zero ≡ minus_zero) × (atan_of one ≡ float 0x3fe921fb54442d18) × (atan_of smallest ≡ smallest) × (atan_of (neg smallest) ≡ neg smallest) × (atan_of largest ≡ float 0x3ff921fb54442d18)
unfolding atan_of atan_by atan_size angle_far angle_rest angle_near place_of points minus add sub mul div lt neg of_bits to_bits
atan-edges = (refl, refl, refl, refl, refl, refl, refl, refl, refl)

-- The sine of pi/2 rounded is 1. 1647099 is the last with a value.
pub sin-edges : (sin_of nan ≡ nan) × (sin_of (inf false) ≡ nan) × (sin_of (inf true) ≡ nan) × (sin_of plus_zero ≡ plus_zero) × (sin_of minus_zero ≡ minus_zero) × (sin_of smallest ≡ smallest)
    × (sin_of (float 0x3ff921fb54442d18) ≡ one) × (sin_of (float 0x413921fb00000001) ≡ nan) × (sin_of (float 0xc13921fb00000001) ≡ nan)
unfolding sin_of add sub mul div lt neg of_bits to_bits
sin-edges = (refl, refl, refl, refl, refl, refl, refl, refl, refl)

-- the law with the mean 0 and this variance
abbrev about : Float → NormalLaw
about v = record { mean = plus_zero; variance = v }

pub tail-edges : (upper_tail (about one) plus_zero ≡ half) × (lower_tail (about one) plus_zero ≡ half) × (upper_tail (about one) (inf false) ≡ plus_zero) × (lower_tail (about one) (inf false) ≡ one)
    × (upper_tail (about one) (inf true) ≡ one) × (lower_tail (about one) (inf true) ≡ plus_zero) × (upper_tail (about plus_zero) one ≡ plus_zero) × (lower_tail (about plus_zero) one ≡ one)
    × (upper_tail (about plus_zero) plus_zero ≡ nan) × (upper_tail (about (neg one)) one ≡ nan) × (upper_tail (about (inf false)) one ≡ half)
unfolding upper_tail lower_tail half_tail exp_of sqrt_of add sub mul div lt ne neg of_bits to_bits
tail-edges = (refl, refl, refl, refl, refl, refl, refl, refl, refl, refl, refl)
