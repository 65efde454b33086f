-- Document 01's sheets worked by hand, P1 to P12, as one table under one theorem; and that each of the fourteen numbers occurs. What the definition of the test answers is
-- worked out by the definition itself. Assumes nothing.
use mathlib.Core.Path.{◌≡◌, refl}
use mathlib.Core.List.{[], ◌∷◌, map}
use lib.Ieee.{add, sub, mul, div, neg, lt, le, eq, is_nan, of_bits, of_int}
use Rattle.floats.specs.Words.{float, one, two}
use Rattle.floats.specs.Sums.{sum_of}
use Rattle.floats.specs.Search.{first_where, first_bad}
use Rattle.floats.specs.Turns.{turns}
use Rattle.floats.specs.Tables.{table}
use Rattle.roots.specs.Root.{sqrt_of}
use Rattle.autocorrelation.specs.Statistic.{durbin_watson_answer}
use Rattle.design.specs.Matrix.{row, matrix, every}
use Rattle.design.specs.Factor.{left_to, factor_of, fails_at, pivots_of}
use Rattle.design.specs.Inverse.{lower_inverse, inverse_from}
use Rattle.design.specs.Law.{law_from}
use Rattle.outcome.specs.Refusals.{first_of}
use Rattle.dwtest.specs.Verdict.{normal_path}
use Rattle.dwtest.specs.Test.{design_of, test_with}
use Rattle.theorems.specs.Sheets.{refused, answered, answer_to, hand-worked, refusals}

pub worked : map answer_to hand-worked ≡
    answered two one 1
    ∷ answered (float 0x4008000000000000) one 4
    ∷ answered one one 4
    ∷ answered (float 0x3fe0000000000000) one 4
    ∷ answered two one 4
    ∷ refused 1 0
    ∷ refused 6 0
    ∷ refused 8 0
    ∷ refused 9 0
    ∷ refused 10 0
    ∷ refused 14 0
    ∷ refused 13 1
    ∷ []
unfolding test_with design_of first_of normal_path durbin_watson_answer first_bad pivots_of fails_at factor_of left_to lower_inverse inverse_from law_from matrix row table every turns first_where sum_of add sub mul div neg le lt eq is_nan sqrt_of of_int of_bits
worked = refl

-- each of the fourteen numbers occurs
pub occurs : map answer_to refusals ≡
    refused 1 0
    ∷ refused 2 0
    ∷ refused 3 0
    ∷ refused 4 1
    ∷ refused 5 0
    ∷ refused 6 0
    ∷ refused 7 2
    ∷ refused 8 0
    ∷ refused 9 0
    ∷ refused 10 0
    ∷ refused 11 1
    ∷ refused 12 1
    ∷ refused 13 1
    ∷ refused 14 0
    ∷ refused 2 1
    ∷ refused 12 2
    ∷ []
unfolding test_with design_of first_of normal_path durbin_watson_answer first_bad pivots_of fails_at factor_of left_to lower_inverse inverse_from law_from matrix row table every turns first_where sum_of add sub mul div neg le lt eq is_nan sqrt_of of_int of_bits
occurs = refl
