-- The law of the unit needs its rule and its limit: runs outside of either, with a column of ones, and what the test answers to them before and after. Each is worked out by the
-- definition itself. Assumes nothing.
use mathlib.Core.Path.{◌≡◌, refl}
use mathlib.Core.Bool.{true, false}
use mathlib.Core.List.{List, [], ◌∷◌, map}
use lib.IntN.{ℤ, pos, negsuc}
use lib.Ieee.{Float, add, sub, mul, div, neg, lt, le, eq, is_nan, of_bits, of_int}
use Rattle.floats.specs.Words.{float, one, two}
use Rattle.floats.specs.Sums.{sum_of}
use Rattle.floats.specs.Search.{first_where, first_bad}
use Rattle.floats.specs.Turns.{turns}
use Rattle.floats.specs.Tables.{table}
use Rattle.floats.specs.Held.{all?}
use Rattle.roots.specs.Root.{sqrt_of}
use Rattle.autocorrelation.specs.Statistic.{durbin_watson_answer}
use Rattle.design.specs.Matrix.{row, matrix, every}
use Rattle.design.specs.Factor.{left_to, factor_of, fails_at, pivots_of}
use Rattle.design.specs.Inverse.{lower_inverse, inverse_from}
use Rattle.outcome.specs.declared.Alternative.TheVariants.{Greater}
use Rattle.outcome.specs.Refusals.{first_of}
use Rattle.dwtest.specs.Test.{design_of, test_with}
use Rattle.outcome.specs.declared.Choice.TheVariants.{Default}
use Rattle.theorems.specs.Sheets.{sheet, Answer, refused, answered, answer_to, ones}
use Rattle.theorems.specs.Scan.{power, scaled, ruled}

-- 2^i and -2^j
abbrev pair : ℤ → ℤ → List Float
pair i j = power i ∷ neg (power j) ∷ []

abbrev asked : List Float → Answer
asked e = answer_to (sheet e (ones 2) 1 Greater Default)

-- runs that do not meet the rule, each followed by eight times it
abbrev outside : List (List Float)
outside =
    pair (negsuc 537) (negsuc 537)
    ∷ scaled (pos 3) (pair (negsuc 537) (negsuc 537))
    ∷ pair (negsuc 537) (negsuc 536)
    ∷ scaled (pos 3) (pair (negsuc 537) (negsuc 536))
    ∷ pair (pos 509) (pos 509)
    ∷ scaled (pos 3) (pair (pos 509) (pos 509))
    ∷ []

pub rule-unmet : map ruled outside ≡ false ∷ false ∷ false ∷ false ∷ false ∷ false ∷ []
unfolding mul neg all?
rule-unmet = refl

-- squares that are lost; one that is lost and one that is not, 2 and 1.8; and a sum that overflows
pub rule-needed : map asked outside ≡
    refused 8 0
    ∷ answered two one 1
    ∷ answered two one 1
    ∷ answered (float 0x3ffccccccccccccd) one 1
    ∷ answered two one 1
    ∷ refused 9 0
    ∷ []
unfolding test_with design_of first_of durbin_watson_answer first_bad pivots_of fails_at factor_of left_to lower_inverse inverse_from matrix row table every turns first_where sum_of add sub mul div neg le lt eq is_nan sqrt_of of_int of_bits
rule-needed = refl

-- runs that meet the rule, each followed by 2^-900 or 2^900 times it, which meets it too: of 0 and -0, and of infinities
abbrev beyond : List (List Float)
beyond =
    pair (negsuc 249) (negsuc 249)
    ∷ scaled (negsuc 899) (pair (negsuc 249) (negsuc 249))
    ∷ pair (pos 249) (pos 249)
    ∷ scaled (pos 900) (pair (pos 249) (pos 249))
    ∷ []

pub rule-met : map ruled beyond ≡ true ∷ true ∷ true ∷ true ∷ []
unfolding mul neg all?
rule-met = refl

pub limit-needed : map asked beyond ≡ answered two one 1 ∷ refused 8 0 ∷ answered two one 1 ∷ refused 7 0 ∷ []
unfolding test_with design_of first_of durbin_watson_answer first_bad pivots_of fails_at factor_of left_to lower_inverse inverse_from matrix row table every turns first_where sum_of add sub mul div neg le lt eq is_nan sqrt_of of_int of_bits
limit-needed = refl
