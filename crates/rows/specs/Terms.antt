-- A sum that goes on from a number, and runs that stand a stride apart. Definitions only. Assumes nothing.
use Rattle.std.specs.Prelude.{ℕ, zero, suc, ◌+◌, ◌*◌, ◌≤◌, ◌<◌, Float}
use Rattle.floats.specs.Words.{◌⊕◌}

-- x, plus term 0, .., plus term (k - 1), each sum rounded
unfoldable pub sum_from : Float → ℕ → (ℕ → Float) → Float
sum_from x zero term = x
sum_from x (suc k) term = sum_from x k term ⊕ term k

-- k runs of m numbers, each `stride` on from the one before, end within l
abbrev pub Reach : ℕ → ℕ → ℕ → ℕ → Type 0
Reach k stride m l = (s : ℕ) → s < k → s * stride + m ≤ l
