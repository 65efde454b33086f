-- What `every` tells, and that it is what `all` answers over a range. Assumes nothing.
use mathlib.Core.Path.{◌≡◌, refl, sym, ◌∙◌, subst}
use mathlib.Core.Bool.{Bool, true, false, ◌&&◌}
use mathlib.Core.Logic.{⊎_elim}
use Prim.Native.Nat.{ℕ, zero, suc, ◌<◌, zero-le}
use lib.ListN.{length, get_or}
use Rattle.std.specs.Bool.{MatchBool}
use Rattle.std.specs.List.{AllWithin, HoldsAt, range_with_len}
use Rattle.std.proofs.lemmas.List.FromFn.{length-range_with_len, get_or-range_with_len}
use native.Mathlib.Nat.{eq-or-lt_of_le, not-suc-le-zero, zero-add}
use native.Mathlib.Omega.{arith}
use Rattle.design.specs.Matrix.{every}

and-false : (a b : Bool) → b ≡ false → a && b ≡ false
and-false true b h = h
and-false false b h = refl

module _ (test : ℕ → Bool) where
  every-holds : (n : ℕ) → ((i : ℕ) → i < n → test i ≡ true) → every n test ≡ true
  unfolding every
  every-holds zero h = refl
  every-holds (suc n) h = rw (every-holds n (λ i l. h i (omega arith))) (h n (omega arith))

  every-fails : (n : ℕ) {i : ℕ} → i < n → test i ≡ false → every n test ≡ false
  unfolding every
  every-fails zero {i} l t = absurd (not-suc-le-zero l)
  every-fails (suc n) {i} l t =
      ⊎_elim (λ e. and-false (every n test) (test n) (rw e at t)) (λ k. rw (every-fails n k t))
      (eq-or-lt_of_le {n = i} {m = n} (omega arith))

  at : (k i : ℕ) (b : Bool) → i < k → test (get_or (range_with_len 0 k) i 0) ≡ b → test i ≡ b
  at k i b l h = subst (λ (j : ℕ). test j ≡ b) (get_or-range_with_len 0 k i 0 l ∙ zero-add i) h

  pub every-all : (k : ℕ) (r : Bool) → MatchBool r (AllWithin (λ i. test i ≡ true) (range_with_len 0 k) 0 (length (range_with_len 0 k))) ((i : ℕ) × (i < length (range_with_len 0 k)) × HoldsAt (λ i. test i ≡ false) (range_with_len 0 k) i) → r ≡ every k test
  every-all k true h = sym (every-holds k (λ i l. at k i true l (h i 0 zero-le (rw (length-range_with_len 0 k) l))))
  every-all k false h =
      let l : h.0 < k = rw (length-range_with_len 0 k) at h.1 in
      sym (every-fails k {i = h.0} l (at k h.0 false l (h.2 0)))
