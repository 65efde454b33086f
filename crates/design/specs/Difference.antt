-- The difference matrix A of Durbin and Watson: diagonal 1, 2, .., 2, 1 and -1 beside it.
-- A column of n numbers is a function of its row, counted from 0.
-- Definitions only. Assumes nothing.
use Rattle.std.specs.Prelude.{ℕ, ◌+◌, ◌-◌, cond, ltb, Float}
use Rattle.floats.specs.Words.{◌⊕◌, ◌⊖◌, plus_zero}

-- +0, and the difference with the number before, where there is one
abbrev pub difference_before : (ℕ → Float) → ℕ → Float
difference_before v t = cond (ltb 0 t) (plus_zero ⊕ (v t ⊖ v (t - 1))) plus_zero

-- entry t of A v: that, and the difference with the number after, where there is one
abbrev pub difference_at : (ℕ → Float) → ℕ → ℕ → Float
difference_at v n t = cond (ltb (t + 1) n) (difference_before v t ⊕ (v t ⊖ v (t + 1))) (difference_before v t)
