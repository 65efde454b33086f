-- The Durbin-Watson statistic of a run of residuals e, and what `durbin_watson` answers, or why there is none (Durbin and Watson 1950).
-- A run is a list of binary64 values, numbered from 0; ⊖, ⊗ and ⊘ round once, and sums run first to last from -0 (crate floats).
-- Definitions only. Assumes nothing.
use Rattle.std.specs.Prelude.{ℕ, ◌+◌, ◌-◌, cond, ◌&&◌, List, length, eqb, Float, Option, Some, None, Result, Ok, Err}
use Rattle.std.specs.Float.Ieee.{eq}
use Rattle.std.specs.Float.Ieee.Scale.{finite}
use Rattle.floats.specs.Words.{◌⊖◌, ◌⊘◌, ◌‼◌, plus_zero, square_of}
use Rattle.floats.specs.Sums.{sum_of, sum_squares}
use Rattle.floats.specs.Search.{first_bad}
use Rattle.autocorrelation.specs.declared.StatisticError.{StatisticError}
use Rattle.autocorrelation.specs.declared.StatisticError.TheVariants.{Empty, Single, NotFinite, ZeroSum, Overflow}

-- the sum of (e t - e (t - 1))² for t from 1 to n - 1
abbrev pub differences : List Float → Float
differences e = sum_of (length e - 1) (λ t. square_of (e ‼ (t + 1) ⊖ e ‼ t))

-- the sum of (e t)² for t from 0 to n - 1
abbrev pub squares : List Float → Float
squares e = sum_squares e

-- Durbin and Watson's d
abbrev pub durbin_watson : List Float → Float
durbin_watson e = differences e ⊘ squares e

-- of two residuals or more, the first that is not finite being found or not
abbrev pub of_found : Option ℕ → List Float → Result Float StatisticError
of_found (Some t) e = Err (NotFinite t)
of_found None e =
    cond (eq (squares e) plus_zero) (Err ZeroSum)
    (cond (finite (squares e) && finite (differences e)) (Ok (durbin_watson e)) (Err Overflow))

-- the first reason why there is none, else the statistic
unfoldable pub durbin_watson_answer : List Float → Result Float StatisticError
durbin_watson_answer e = cond (eqb (length e) 0) (Err Empty) (cond (eqb (length e) 1) (Err Single) (of_found (first_bad e) e))

-- the statistic, +0 where there is none
abbrev pub value : Result Float StatisticError → Float
value (Ok d) = d
value (Err why) = plus_zero
