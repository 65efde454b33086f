-- What `first_where` found: where it says Some i the test holds at i and at no index before, and where it says None it holds nowhere. One idea: once found, a longer search finds the same. Assumes nothing.
use mathlib.Core.Path.{◌≡◌, refl, sym, ◌∙◌}
use mathlib.Core.Logic.{◌⊎◌, inl, inr, ⊎_elim}
use mathlib.Core.Bool.{Bool, true, false, cond}
use Prim.Native.Nat.{ℕ, zero, suc, ◌+◌, ◌-◌, ◌≤◌, ◌<◌}
use native.Mathlib.Nat.{sub-add_cancel, zero-add, suc-add, eq-or-lt_of_le, not-suc-le-zero}
use native.Mathlib.Numerals.{add-one}
use native.Mathlib.Omega.{arith}
use lib.Dec.{ltb}
use borrow.Author.Tests.{lt-ltb, le-ltb}
use Rattle.std.specs.Prelude.{Option, Some, None, List, length, position, Float}
use Rattle.std.proofs.lemmas.List.Sums.{position_or_len_is}
use Rattle.std.specs.Float.{nan}
use Rattle.floats.specs.Words.{◌‼◌}
use Rattle.floats.specs.Search.{first_where, or_else}

never : {i : ℕ} → None ≡ Some i → ⊥
never q = let z : ◌≡◌ {A = ℕ} 0 1 = cc in omega arith

-- what one index more tells
split-nothing : (f : Option ℕ) (b : Bool) (n : ℕ) → or_else f (cond b (Some n) None) ≡ None → (f ≡ None) × (b ≡ false)
split-nothing (Some i) b n h = absurd (never (sym h))
split-nothing None true n h = absurd (never (sym h))
split-nothing None false n h = (refl, refl)

split_at : (f : Option ℕ) (b : Bool) (n i : ℕ) → or_else f (cond b (Some n) None) ≡ Some i → (f ≡ Some i) ⊎ ((f ≡ None) × (b ≡ true) × (n ≡ i))
split_at (Some j) b n i h = inl h
split_at None true n i h = inr (refl, refl, cc)
split_at None false n i h = absurd (never h)

module _ (test : ℕ → Bool) where
  -- one index more
  pub first_next : (n : ℕ) → first_where n test ≡ None → first_where (suc n) test ≡ cond (test n) (Some n) None
  unfolding first_where
  first_next n h = rw h

  -- once found, a longer search finds the same
  pub first-stays : (n i : ℕ) (k : ℕ) → first_where n test ≡ Some i → first_where (k + n) test ≡ Some i
  unfolding first_where
  first-stays n i zero h = rw zero-add h
  first-stays n i (suc k) h = rw suc-add (rw (first-stays n i k h))

  pub first-longer : {n m i : ℕ} → n ≤ m → first_where n test ≡ Some i → first_where m test ≡ Some i
  first-longer {n} {m} {i} l h = rw (sub-add_cancel l) at (first-stays n i (m - n) h)

  -- where the test holds at i and the search up to i found nothing, i is what is found
  pub first-at : {n i : ℕ} → i < n → first_where i test ≡ None → test i ≡ true → first_where n test ≡ Some i
  first-at {n} {i} l h t = first-longer l (first_next i h ∙ rw t)

  pub first-not : (n : ℕ) → first_where n test ≡ None → test n ≡ false → first_where (n + 1) test ≡ None
  first-not n h t = rw add-one (first_next n h ∙ rw t)

  -- where nothing is found the test holds nowhere below n
  pub none-at : (n j : ℕ) → first_where n test ≡ None → j < n → test j ≡ false
  unfolding first_where
  none-at zero j h l = absurd (not-suc-le-zero l)
  none-at (suc n) j h l =
      let s = split-nothing (first_where n test) (test n) n h in
      ⊎_elim (λ e. rw e s.1) (λ k. none-at n j s.0 k) (eq-or-lt_of_le {n = j} {m = n} (omega arith))

  -- Some i is below n, the test holds there, and nowhere before
  pub found-holds : (n i : ℕ) → first_where n test ≡ Some i → (i < n) × (test i ≡ true) × (first_where i test ≡ None)
  unfolding first_where
  found-holds zero i h = absurd (never h)
  found-holds (suc n) i h =
      ⊎_elim (λ e. let r = found-holds n i e in (omega (arith, r.0), r.1, r.2))
      (λ e. (rw e.2 (omega arith), rw e.2 at e.1, rw e.2 at e.0))
      (split_at (first_where n test) (test n) n i h)

  pub none_before : (n i j : ℕ) → first_where n test ≡ Some i → j < i → test j ≡ false
  none_before n i j h l = none-at i j (found-holds n i h).2 l

-- std's `position` finds the same
pub position-first : (p : Float → Bool) (xs : List Float) → position p xs ≡ first_where (length xs) (λ t. p (xs ‼ t))
position-first p xs = go (first_where (length xs) test) refl
  where
    test : ℕ → Bool
    test t = p (xs ‼ t)

    at : (i : ℕ) → i ≤ length xs → ((k : ℕ) → k < i → test k ≡ false) → (i < length xs → test i ≡ true) → position p xs ≡ cond (ltb i (length xs)) (Some i) None
    at i l before here = let e = position_or_len_is p xs i nan l before here in rw e refl

    go : (r : Option ℕ) → first_where (length xs) test ≡ r → position p xs ≡ r
    go (Some i) h = let f = found-holds test (length xs) i h in at i (omega arith) (λ k l. none-at test i k f.2 l) (λ l. f.1) ∙ rw (lt-ltb i (length xs) f.0)
    go None h = at (length xs) (omega arith) (λ k l. none-at test (length xs) k h l) (λ l. absurd (omega arith)) ∙ rw (le-ltb (length xs) (length xs) (omega arith))
