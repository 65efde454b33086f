-- The rows of A M that a block of terms takes, as a run holds them. Definitions only. Assumes nothing.
use Rattle.std.specs.Prelude.{ℕ, ◌+◌, ◌*◌, ◌<◌, ◌≡◌, List, Float}
use Rattle.floats.specs.Words.{◌‼◌}
use Rattle.floats.specs.Matrix.{half_entry}
use Rattle.design.specs.Difference.{difference_at}

-- the first k rows from row t of A M on, each n numbers and a stride on from the one before; m holds the lower triangle of M
abbrev pub Loaded : ℕ → ℕ → ℕ → List Float → ℕ → List Float → Type 0
Loaded stride n t m k w = (s j : ℕ) → s < k → j < n → w ‼ (s * stride + j) ≡ difference_at (λ r. half_entry m r j) n (t + s)
