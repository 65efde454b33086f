-- The statistic of document 01's sheets P1 to P5, why P7 to P9 have none, and two of its plausible slips: squares that underflow, and the place of the first number
-- that is not finite. Each is worked out by the definition itself. Assumes nothing.
use mathlib.Core.Path.{◌≡◌, refl}
use mathlib.Core.List.{List, [], ◌∷◌, map}
use Prim.Native.Nat.{◌+◌, ◌*◌, ◌^◌, ◌<◌}
use lib.Dec.{lit≤, lit<}
use lib.IntN.{pos, nat_abs, ◌-ℤ◌, ◌*ℤ◌}
use lib.Ieee.{Float, nan, neg, add, sub, mul, div, eq, fits, of_bits}
use Rattle.floats.specs.Words.{float, plus_zero, one, two}
use Rattle.floats.specs.Sums.{sum_of}
use Rattle.floats.specs.Search.{first_bad}
use Rattle.floats.specs.Held.{all?}
use Rattle.std.specs.Prelude.{Ok, Err}
use Rattle.autocorrelation.specs.declared.StatisticError.TheVariants.{Single, NotFinite, ZeroSum, Overflow}
use Rattle.autocorrelation.specs.Statistic.{durbin_watson, durbin_watson_answer}
use Rattle.autocorrelation.specs.Bound.{exact, exact_sum, exact_squares, exact_differences, Accurate}
use Rattle.autocorrelation.proofs.Theorems.{sure}

abbrev minus_one : Float
minus_one = float 0xbff0000000000000

-- 1e200, and 2^-600
abbrev large : Float
large = float 0x6974e718d7d7625a

abbrev tiny : Float
tiny = float 0x1a70000000000000

abbrev sheets : List (List Float)
sheets =
    (one ∷ minus_one ∷ [])
    ∷ (one ∷ minus_one ∷ one ∷ minus_one ∷ [])
    ∷ (one ∷ one ∷ minus_one ∷ minus_one ∷ [])
    ∷ (one ∷ one ∷ plus_zero ∷ [])
    ∷ (plus_zero ∷ one ∷ plus_zero ∷ [])
    ∷ (one ∷ [])
    ∷ (plus_zero ∷ plus_zero ∷ [])
    ∷ (large ∷ large ∷ [])
    ∷ (tiny ∷ tiny ∷ [])
    ∷ (one ∷ nan ∷ nan ∷ [])
    ∷ []

pub worked : map durbin_watson_answer sheets ≡
    Ok two
    ∷ Ok (float 0x4008000000000000)
    ∷ Ok one
    ∷ Ok (float 0x3fe0000000000000)
    ∷ Ok two
    ∷ Err Single
    ∷ Err ZeroSum
    ∷ Err Overflow
    ∷ Err ZeroSum
    ∷ Err (NotFinite 1)
    ∷ []
unfolding durbin_watson_answer first_bad sum_of add sub mul div eq neg of_bits
worked = refl

-- ---- two residuals whose statistic is 2.4 / 2^52 of D away from D: they meet the rules and the bound, and half of the bound would be false
abbrev pair : List Float
pair = float 0xbfcea0356e3b9ef4 ∷ float 0xbff6a720165b395f ∷ []

pub pair-accurate : Accurate 2 (float 0x3fe57c0ee4b2a110) (exact_differences pair) (exact_squares pair)
unfolding durbin_watson_answer first_bad sum_of add sub mul div eq neg of_bits all? fits
pair-accurate = (sure pair (float 0x3fe57c0ee4b2a110) refl tt).accurate (lit≤ tt) tt tt

pub past-half : (2 + 2) * (exact_differences pair * 2 ^ 1074) < nat_abs (exact (durbin_watson pair) *ℤ pos (exact_squares pair) -ℤ pos (exact_differences pair * 2 ^ 1074)) * 2 ^ 53
unfolding sum_of add sub mul div neg of_bits exact_sum
past-half = lit< tt
