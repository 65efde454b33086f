-- The first index below a count at which a test holds, and the first number of a run that is not finite. Definitions only. Assumes nothing.
use Rattle.std.specs.Prelude.{ℕ, zero, suc, Bool, not, cond, List, length, Float, Option, Some, None}
use Rattle.std.specs.Float.Ieee.Scale.{finite}
use Rattle.floats.specs.Words.{◌‼◌}

-- what was found first, else what comes after
abbrev pub or_else : Option ℕ → Option ℕ → Option ℕ
or_else (Some i) after = Some i
or_else None after = after

-- the first of 0, 1, .., n - 1 at which the test holds
unfoldable pub first_where : ℕ → (ℕ → Bool) → Option ℕ
first_where zero test = None
first_where (suc n) test = or_else (first_where n test) (cond (test n) (Some n) None)

-- the first number of a run that is a NaN or an infinity
unfoldable pub first_bad : List Float → Option ℕ
unfolding first_where
first_bad xs = first_where (length xs) (λ t. not (finite (xs ‼ t)))
