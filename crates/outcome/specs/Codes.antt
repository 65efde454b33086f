-- What the two codes of a call mean (document 01, "The sheet program"). Definitions only. Assumes nothing.
use Rattle.std.specs.Prelude.{ℕ, cond, eqb, ltb, Result, Ok, Err}
use Rattle.outcome.specs.declared.Alternative.{Alternative}
use Rattle.outcome.specs.declared.Alternative.TheVariants.{Greater, Less, TwoSided}
use Rattle.outcome.specs.declared.Choice.{Choice}
use Rattle.outcome.specs.declared.Choice.TheVariants.{Default, Exact, Normal}
use Rattle.outcome.specs.declared.UnknownCode.{UnknownCode}

-- 0 greater, 1 less, 2 two-sided
abbrev pub alternative_of : ℕ → Alternative
alternative_of code = cond (eqb code 0) Greater (cond (eqb code 1) Less TwoSided)

-- 0 default, 1 exact, 2 normal
abbrev pub choice_of : ℕ → Choice
choice_of code = cond (eqb code 0) Default (cond (eqb code 1) Exact Normal)

-- the code of an alternative
abbrev pub code_of : Alternative → ℕ
code_of Greater = 0
code_of Less = 1
code_of TwoSided = 2

-- what a code means where it is one of these three
abbrev pub unknown : ℕ → UnknownCode
unknown code = record { 0 = code }

abbrev pub alternative_in : ℕ → Result Alternative UnknownCode
alternative_in code = cond (ltb code 3) (Ok (alternative_of code)) (Err (unknown code))

abbrev pub choice_in : ℕ → Result Choice UnknownCode
choice_in code = cond (ltb code 3) (Ok (choice_of code)) (Err (unknown code))
