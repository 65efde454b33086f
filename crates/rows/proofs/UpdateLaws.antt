-- A run whose numbers are replaced one after another. Assumes nothing.
use Rattle.std.proofs.Common.{◌≡◌, ℕ, ◌+◌, ◌<◌, ◌≤◌, List, length, set, Float, ◌∙◌, arith}
use Rattle.std.specs.Float.{nan}
use native.Mathlib.Decide.{ℕ_discrete}
use lib.Seq.{get_or-set_same, get_or-set_other}
use Rattle.floats.specs.Words.{◌‼◌}

module _ (P : ℕ → Float → Type 0) (l : List Float) (j : ℕ) (x : Float) (h : j < length l) where
  -- what holds of each number before j holds up to j, once number j is stored
  pub stored-more : ((i : ℕ) → i < j → P i (l ‼ i)) → P j x → (i : ℕ) → i < j + 1 → P i (set l j x ‼ i)
  stored-more before here i k = pick (ℕ_discrete i j)
    where
      pick : Dec (i ≡ j) → P i (set l j x ‼ i)
      pick (yes e) = rw (e, get_or-set_same l j x nan h) here
      pick (no e) = rw (get_or-set_other l j i x nan e) (before i (omega arith))

-- the numbers from j + 1 on stay
pub stored-rest : (l r : List Float) (j : ℕ) (x : Float) → ((i : ℕ) → j ≤ i → l ‼ i ≡ r ‼ i) → (i : ℕ) → j + 1 ≤ i → set l j x ‼ i ≡ r ‼ i
stored-rest l r j x h i k = get_or-set_other l j i x nan (omega arith) ∙ h i (omega arith)
