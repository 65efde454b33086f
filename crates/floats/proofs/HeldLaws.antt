-- Tests that all pass: each does, and where each does they all do. Assumes nothing.
use mathlib.Core.Path.{◌≡◌}
use mathlib.Core.Logic.{⊎_elim}
use mathlib.Core.Bool.{Bool}
use Prim.Native.Nat.{ℕ, zero, suc, ◌+◌, ◌<◌}
use native.Mathlib.Nat.{le_refl, le_step, eq-or-lt_of_le, not-suc-le-zero}
use native.Mathlib.Numerals.{add-one}
use native.Mathlib.Omega.{arith}
use lib.Dec.{T}
use lib.Ieee.Fits.{and_i, and_l, and_r}
use Rattle.std.specs.Prelude.{Option, Some, None, List, length, Float}
use Rattle.std.specs.Float.{binary64}
use Rattle.std.specs.Float.Ieee.{fits}
use Rattle.floats.specs.Words.{◌‼◌}
use Rattle.floats.specs.Held.{all?, HeldBy}

pub all-at : (n : ℕ) (test : ℕ → Bool) (t : ℕ) → T (all? n test) → t < n → T (test t)
unfolding all?
all-at zero test t h g = absurd (not-suc-le-zero g)
all-at (suc n) test t h g =
    ⊎_elim (λ (e : t ≡ n). rw e (and_r (all? n test) (test n) h)) (λ (l : t < n). all-at n test t (and_l (all? n test) (test n) h) l) (eq-or-lt_of_le {n = t} {m = n} (omega arith))

pub all_of : (n : ℕ) (test : ℕ → Bool) → ((t : ℕ) → t < n → T (test t)) → T (all? n test)
unfolding all?
all_of zero test h = tt
all_of (suc n) test h = and_i (all? n test) (test n) (all_of n test (λ t l. h t (le_step l))) (h n (le_refl (suc n)))

-- one test more
pub all-next : (n : ℕ) (test : ℕ → Bool) → T (all? n test) → T (test n) → T (all? (n + 1) test)
unfolding all?
all-next n test h k = rw (add-one n) (and_i (all? n test) (test n) h k)

-- a run whose every number is held, whatever the search in it told
pub held_by : (found : Option ℕ) (xs : List Float) → ((t : ℕ) → T (fits binary64 (xs ‼ t))) → HeldBy found xs
held_by (Some i) xs h = tt
held_by None xs h = all_of (length xs) (λ t. fits binary64 (xs ‼ t)) (λ t l. h t)
