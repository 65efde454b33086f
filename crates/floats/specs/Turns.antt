-- One combinator for every counted loop. Definitions only. Assumes nothing.
use Rattle.std.specs.Prelude.{ℕ, zero, suc}

-- what n turns make of s: step 0 first, then step 1, .., step (n - 1) last
unfoldable pub turns : {A : Type 0} → ℕ → (ℕ → A → A) → A → A
turns zero step s = s
turns (suc k) step s = step k (turns k step s)
