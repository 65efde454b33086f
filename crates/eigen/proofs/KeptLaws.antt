-- The kept eigenvalues never rise, are at most n - k, and are each above 1e-10. An insertion keeps a list falling: all that is asked of the order is that
-- no two numbers come before each other. Assumes nothing.
use mathlib.Core.Path.{◌≡◌, refl}
use mathlib.Core.Bool.{Bool, true, false, cond}
use Prim.Native.Nat.{ℕ, zero, suc, ◌-◌, ◌≤◌, ◌<◌}
use native.Mathlib.Nat.{le_trans}
use native.Mathlib.Omega.{arith}
use mathlib.Core.List.{List, [], ◌∷◌}
use lib.ListN.{length, take, length-take}
use lib.Ieee.{Float, lt}
use Rattle.floats.specs.Words.{◌‼◌}
use Rattle.floats.specs.Signs.{before}
use lib.Dec.{T}
use lib.Ieee.Scale.{finite}
use Rattle.floats.proofs.SignLaws.{before-one-way}
use Rattle.floats.proofs.TotalOrder.{falls-on}
use Rattle.eigen.specs.Kept.{insert, falling, kept_above, large, kept_of}
use Rattle.eigen.specs.Falling.{NeverRises, AllLarge, AllFinite}
use Rattle.eigen.proofs.OrderLaws.{length-large}

-- ---- falling lists

-- the tail falls too
rest-falls : (x : Float) (l : List Float) → NeverRises (x ∷ l) → NeverRises l
unfolding NeverRises
rest-falls x [] f = tt
rest-falls x (y ∷ r) f = f.1

-- x goes into a list behind w, which does not come before it
behind : (w x : Float) (l : List Float) → before w x ≡ false → NeverRises (w ∷ l) → NeverRises (w ∷ insert x l)
unfolding NeverRises insert
behind w x [] h f = (h, tt)
behind w x (y ∷ r) h f = go (before y x) refl (λ e. behind y x r e f.1)
  where
    go : (b : Bool) → before y x ≡ b → (before y x ≡ false → NeverRises (y ∷ insert x r)) → NeverRises (w ∷ cond b (x ∷ (y ∷ r)) (y ∷ insert x r))
    go true e k = (h, (before-one-way y x e, f.1))
    go false e k = (f.0, k e)

insert-falls : (x : Float) (l : List Float) → NeverRises l → NeverRises (insert x l)
unfolding NeverRises insert
insert-falls x [] f = tt
insert-falls x (y ∷ r) f = go (before y x) refl (λ e. behind y x r e f)
  where
    go : (b : Bool) → before y x ≡ b → (before y x ≡ false → NeverRises (y ∷ insert x r)) → NeverRises (cond b (x ∷ (y ∷ r)) (y ∷ insert x r))
    go true e k = (before-one-way y x e, f)
    go false e k = k e

pub falling-falls : (d : List Float) (n : ℕ) → NeverRises (falling d n)
unfolding falling NeverRises
falling-falls d zero = tt
falling-falls d (suc n) = insert-falls (d ‼ n) (falling d n) (falling-falls d n)

take-falls : (m : ℕ) (l : List Float) → NeverRises l → NeverRises (take m l)
unfolding NeverRises
take-falls zero l f = tt
take-falls (suc m) [] f = tt
take-falls (suc zero) (x ∷ r) f = tt
take-falls (suc (suc m)) (x ∷ []) f = tt
take-falls (suc (suc m)) (x ∷ (y ∷ r)) f = (f.0, take-falls (suc m) (y ∷ r) f.1)

-- ---- finite lists

insert-finite : (x : Float) (l : List Float) → T (finite x) → AllFinite l → AllFinite (insert x l)
unfolding AllFinite insert
insert-finite x [] a f = (a, tt)
insert-finite x (y ∷ r) a f = go (before y x) (insert-finite x r a f.1)
  where
    go : (b : Bool) → AllFinite (insert x r) → AllFinite (cond b (x ∷ (y ∷ r)) (y ∷ insert x r))
    go true k = (a, f)
    go false k = (f.0, k)

falling-finite : (d : List Float) (n : ℕ) → ((t : ℕ) → t < n → T (finite (d ‼ t))) → AllFinite (falling d n)
unfolding falling AllFinite
falling-finite d zero h = tt
falling-finite d (suc n) h = insert-finite (d ‼ n) (falling d n) (h n (omega arith)) (falling-finite d n (λ t l. h t (omega arith)))

take-finite : (m : ℕ) (l : List Float) → AllFinite l → AllFinite (take m l)
unfolding AllFinite
take-finite zero l f = tt
take-finite (suc m) [] f = tt
take-finite (suc m) (x ∷ r) f = (f.0, take-finite m r f.1)

-- ---- the large ones of a falling list

-- one left out
skipped : (w y : Float) (r : List Float) → T (finite w) → AllFinite (y ∷ r) → NeverRises (w ∷ (y ∷ r)) → NeverRises (w ∷ r)
unfolding NeverRises AllFinite
skipped w y [] a f h = tt
skipped w y (z ∷ r) a f h = (falls-on w y z a f.0 f.1.0 h.0 h.1.0, h.1.1)

large-behind : (w : Float) (l : List Float) → T (finite w) → AllFinite l → NeverRises (w ∷ l) → NeverRises (w ∷ large l)
unfolding large NeverRises AllFinite
large-behind w [] a f h = tt
large-behind w (y ∷ r) a f h = go (lt kept_above y) (large-behind y r f.0 f.1 h.1) (large-behind w r a f.1 (skipped w y r a f h))
  where
    go : (b : Bool) → NeverRises (y ∷ large r) → NeverRises (w ∷ large r) → NeverRises (w ∷ cond b (y ∷ large r) (large r))
    go true p q = (h.0, p)
    go false p q = q

large-falls : (l : List Float) → AllFinite l → NeverRises l → NeverRises (large l)
unfolding large NeverRises AllFinite
large-falls [] f h = tt
large-falls (x ∷ r) f h = go (lt kept_above x) (large-behind x r f.0 f.1 h) (large-falls r f.1 (rest-falls x r h))
  where
    go : (b : Bool) → NeverRises (x ∷ large r) → NeverRises (large r) → NeverRises (cond b (x ∷ large r) (large r))
    go true p q = p
    go false p q = q

-- ---- THE LAWS

-- the kept never rise, where the numbers were finite
pub kept-falls : (d : List Float) (n k : ℕ) → ((t : ℕ) → t < n → T (finite (d ‼ t))) → NeverRises (kept_of d n k)
unfolding kept_of
kept-falls d n k h = large-falls (take (n - k) (falling d n)) (take-finite (n - k) (falling d n) (falling-finite d n h)) (take-falls (n - k) (falling d n) (falling-falls d n))

-- they are at most n - k
pub kept-few : (d : List Float) (n k : ℕ) → length (kept_of d n k) ≤ n - k
unfolding kept_of
kept-few d n k = le_trans (length-large (take (n - k) (falling d n))) (simp length-take (omega arith))

-- and each is above 1e-10
all_large : (l : List Float) → AllLarge (large l)
unfolding large AllLarge
all_large [] = tt
all_large (x ∷ r) = go (lt kept_above x) refl (all_large r)
  where
    go : (b : Bool) → lt kept_above x ≡ b → AllLarge (large r) → AllLarge (cond b (x ∷ large r) (large r))
    go true e p = (e, p)
    go false e p = p

pub kept-large : (d : List Float) (n k : ℕ) → AllLarge (kept_of d n k)
unfolding kept_of
kept-large d n k = all_large (take (n - k) (falling d n))
