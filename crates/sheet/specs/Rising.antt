-- Numbers that rise. They are f 0, f 1, .., f (n - 1) for any function f from an index to a number. Definitions only. Assumes nothing.
use Rattle.std.specs.Prelude.{ℕ, ◌+◌, ◌-◌, ◌≤◌, ◌<◌, Bool, true, false, leb, Option, Some, None}
use Rattle.floats.specs.Search.{first_where}

-- nothing was found
abbrev pub nowhere : Option ℕ → Bool
nowhere (Some t) = false
nowhere None = true

-- number t + 1 is not above number t
abbrev pub falls_at : (ℕ → ℕ) → ℕ → Bool
falls_at f t = leb (f (t + 1)) (f t)

-- whether each number but the first is greater than the one before it; none, or one by itself, rises
abbrev pub rises : (ℕ → ℕ) → ℕ → Bool
rises f n = nowhere (first_where (n - 1) (falls_at f))

-- that it is so; and that it is not, by a pair
abbrev pub Rising : (ℕ → ℕ) → ℕ → Type 0
Rising f n = (t : ℕ) → t + 1 < n → f t < f (t + 1)

pub record Falls (f : ℕ → ℕ) (n : ℕ) : Type 0 where
  pub place : ℕ
  pub pair : place + 1 < n
  pub falls : f (place + 1) ≤ f place
