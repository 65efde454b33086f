-- What `rises` says: it is true exactly where each number is greater than the one before it, and false exactly where one is not; numbers that rise rise from any of them to any later one.
-- Assumes nothing.
use Prim.Native.Nat.{ℕ, zero, suc, ◌+◌, ◌-◌, ◌≤◌, ◌<◌}
use native.Mathlib.Nat.{eq-or-lt_of_le, not-suc-le-zero}
use native.Mathlib.Numerals.{add-one}
use native.Mathlib.Omega.{arith}
use mathlib.Core.Path.{◌≡◌, refl}
use mathlib.Core.Logic.{⊎_elim}
use mathlib.Core.Bool.{Bool, true, false, true≢false}
use borrow.Author.Tests.{leb-true, leb-false}
use Rattle.std.specs.Prelude.{Option, Some, None}
use Rattle.floats.specs.Search.{first_where}
use Rattle.floats.proofs.FirstLaws.{none-at, found-holds}
use lib.ListN.{length}
use Rattle.std.specs.Prelude.{not}
use Rattle.std.specs.Bool.{MatchBool}
use Rattle.std.specs.List.{range_with_len, AllWithin, HoldsAt}
use Rattle.std.proofs.lemmas.List.FromFn.{length-range_with_len, get_or-range_with_len}
use Rattle.sheet.specs.Rising.{nowhere, falls_at, rises, Rising, Falls}

module _ (f : ℕ → ℕ) (n : ℕ) where
  pub rises-each : rises f n ≡ true → Rising f n
  rises-each h t l = go (first_where (n - 1) (falls_at f)) refl h
    where
      go : (r : Option ℕ) → first_where (n - 1) (falls_at f) ≡ r → nowhere r ≡ true → f t < f (t + 1)
      go (Some s) e h = absurd (let z : true ≡ false = cc in true≢false z)
      go None e h = leb-false _ _ (none-at (falls_at f) (n - 1) t e (omega arith))

  pub falls-somewhere : rises f n ≡ false → Falls f n
  falls-somewhere h = go (first_where (n - 1) (falls_at f)) refl h
    where
      go : (r : Option ℕ) → first_where (n - 1) (falls_at f) ≡ r → nowhere r ≡ false → Falls f n
      go (Some s) e h = let r = found-holds (falls_at f) (n - 1) s e in record { place = s; pair = omega (arith, r.0); falls = leb-true _ _ r.1 }
      go None e h = absurd (true≢false h)

  pub not-both : Rising f n → Falls f n → ⊥
  not-both h w = omega (arith, h w.place w.pair, w.falls)

  pub each-rises : Rising f n → rises f n ≡ true
  each-rises h = go (rises f n) refl
    where
      go : (b : Bool) → rises f n ≡ b → b ≡ true
      go true e = refl
      go false e = absurd (not-both h (falls-somewhere e))

  pub fall-rises : Falls f n → rises f n ≡ false
  fall-rises w = go (rises f n) refl
    where
      go : (b : Bool) → rises f n ≡ b → b ≡ false
      go true e = absurd (not-both (rises-each e) w)
      go false e = refl

  -- what `any` tells of the numbers 1, 2, .., n - 1, each asked whether f of it is not above f of the one before it
  pub any-falls : (r : Bool) → MatchBool r ((k : ℕ) × (k < length (range_with_len 1 (n - 1))) × HoldsAt (λ t. f t ≤ f (t - 1)) (range_with_len 1 (n - 1)) k)
      (AllWithin (λ t. f (t - 1) < f t) (range_with_len 1 (n - 1)) 0 (length (range_with_len 1 (n - 1)))) → r ≡ not (rises f n)
  any-falls true w =
      let k = w.0 in
      let l : k < n - 1 = rw length-range_with_len at w.1 in
      let h : f (1 + k) ≤ f (1 + k - 1) = rw (get_or-range_with_len 1 (n - 1) k 0 l) at (w.2 0) in
      let a : 1 + k ≡ k + 1 = omega arith in
      let b : 1 + k - 1 ≡ k = omega arith in
      rw (fall-rises (record { place = k; pair = omega arith; falls = rw (b, a) at h }))
  any-falls false w = rw (each-rises (λ t l.
      let m : t < n - 1 = omega arith in
      let k : t < length (range_with_len 1 (n - 1)) = rw length-range_with_len m in
      let h : f (1 + t - 1) < f (1 + t) = rw (get_or-range_with_len 1 (n - 1) t 0 m) at (w t 0 (omega arith) k) in
      let a : 1 + t ≡ t + 1 = omega arith in
      let b : 1 + t - 1 ≡ t = omega arith in
      rw (b, a) at h))

  -- from any of them to any later one
  pub throughout : Rising f n → (s t : ℕ) → s < t → t < n → f s < f t
  throughout h s zero a b = absurd (not-suc-le-zero a)
  throughout h s (suc t) a b =
      let step : f t < f (suc t) = rw add-one at (h t (rw add-one b)) in
      ⊎_elim (λ e. rw e step) (λ l. omega (arith, throughout h s t l (omega arith))) (eq-or-lt_of_le {n = s} {m = t} (omega arith))
