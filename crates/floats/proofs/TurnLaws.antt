-- Laws of `turns`: none, one more, and that what every turn keeps is kept by all. Assumes nothing.
use Prim.Native.Nat.{ℕ, zero, suc, ◌+◌, ◌<◌}
use native.Mathlib.Numerals.{add-one}
use native.Mathlib.Omega.{arith}
use mathlib.Core.Path.{◌≡◌, refl, ap, ◌∙◌}
use Rattle.floats.specs.Turns.{turns}

module _ {A : Type 0} (step : ℕ → A → A) where
  pub turns-none : (s : A) → turns 0 step s ≡ s
  unfolding turns
  turns-none s = refl

  pub turns_more : (k : ℕ) (s : A) → turns (k + 1) step s ≡ step k (turns k step s)
  unfolding turns
  turns_more k s = rw add-one

  -- a property that each turn below n keeps
  pub turns-keep : (P : A → Type 0) (n : ℕ) → ((k : ℕ) (s : A) → k < n → P s → P (step k s)) → (s : A) → P s → P (turns n step s)
  unfolding turns
  turns-keep P zero h s p = p
  turns-keep P (suc n) h s p = h n (turns n step s) (omega arith) (turns-keep P n (λ k t l. h k t (omega arith)) s p)

-- steps that do the same below n make the same
pub turns_same : {A : Type 0} (f g : ℕ → A → A) (n : ℕ) → ((k : ℕ) (s : A) → k < n → f k s ≡ g k s) → (s : A) → turns n f s ≡ turns n g s
unfolding turns
turns_same f g zero h s = refl
turns_same f g (suc n) h s = ap (f n) (turns_same f g n (λ k t l. h k t (omega arith)) s) ∙ h n (turns n g s) (omega arith)
