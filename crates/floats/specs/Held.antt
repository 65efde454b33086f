-- Tests that all pass, and runs whose every number binary64 holds. Definitions only. Assumes nothing.
use Rattle.std.specs.Prelude.{ℕ, zero, suc, Bool, true, ◌&&◌, List, T, length, Float, Option, Some, None}
use Rattle.std.specs.Float.{binary64}
use Rattle.std.specs.Float.Ieee.{fits}
use Rattle.floats.specs.Words.{◌‼◌}

-- test 0, .., test (n - 1) all pass
unfoldable pub all? : ℕ → (ℕ → Bool) → Bool
all? zero test = true
all? (suc t) test = all? t test && test t

-- every number of e is a value that binary64 holds, as every number of an f64 slice is
abbrev pub held? : List Float → Bool
held? e = all? (length e) (λ t. fits binary64 (e ‼ t))

-- what a search for a number that is not finite tells of the run: where there is none, binary64 holds every number
abbrev pub HeldBy : Option ℕ → List Float → Type 0
HeldBy (Some t) xs = Unit
HeldBy None xs = T (held? xs)
