-- Sixteen points at once: the sums at them, and how far they reach. What the functions inside the crate promise one another; `integrands` itself speaks of the integrand alone.
-- Definitions only. Assumes nothing.
use Rattle.std.specs.Prelude.{ℕ, ◌<◌, true, List, ◌⊎◌, ◌≡◌, Float}
use Rattle.std.specs.Float.Ieee.{is_nan, lt, le}
use Rattle.floats.specs.Words.{◌⊕◌, ◌‼◌, plus_zero}
use Rattle.floats.specs.Tables.{table}

-- sixteen sums, one at each u, with one weight's term at that u added
abbrev pub added_to : (Float → Float) → List Float → List Float → List Float
added_to term us sums = table (λ j. sums ‼ j ⊕ term (us ‼ j)) 16

-- r is no number, or each of sixteen numbers is above 0 and at most r
abbrev pub Upto : List Float → Float → Type 0
Upto us r = (is_nan r ≡ true) ⊎ ((j : ℕ) → j < 16 → (lt plus_zero (us ‼ j) ≡ true) × (le (us ‼ j) r ≡ true))
