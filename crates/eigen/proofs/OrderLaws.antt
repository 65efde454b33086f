-- What one comparison of an insertion does to the list; how long the lists are; what is kept of a longer list. Assumes nothing.
use mathlib.Core.Path.{◌≡◌, refl, sym, ap, ◌∙◌}
use mathlib.Core.Bool.{Bool, true, false, not, cond}
use Prim.Native.Nat.{ℕ, zero, suc, ◌+◌, ◌-◌, ◌≤◌, ◌<◌}
use native.Mathlib.Nat.{le_antisymm}
use native.Mathlib.Numerals.{add-one}
use native.Mathlib.Omega.{arith}
use mathlib.Core.List.{List, [], ◌∷◌, ◌++◌, append-nil}
use lib.ListN.{length, take, drop, set, length-append, drop_of_length-le}
use lib.Seq.{take-suc, take_all, append_snoc, drop-cons, set_at, take_at, get_or_at}
use lib.Ieee.{Float, nan, lt}
use Rattle.std.specs.Prelude.{Option, Some, None, position, nat_lt}
use Rattle.std.specs.List.{position_or_len}
use Rattle.std.specs.Option.{unwrap_or}
use Rattle.std.proofs.lemmas.List.{drop-drop, drop-take, take-take, length-take, append_assoc}
use Rattle.std.proofs.lemmas.Bool.{ltb-false}
use Rattle.floats.specs.Words.{◌‼◌}
use Rattle.floats.specs.Signs.{before}
use Rattle.eigen.specs.Kept.{insert, falling, kept_above, large}

-- ---- an insertion

-- x goes in front of the first number that comes before it
insert-at : (x : Float) (l : List Float) → insert x l ≡ take (position_or_len (λ y. before y x) l) l ++ (x ∷ drop (position_or_len (λ y. before y x) l) l)
unfolding insert
insert-at x [] = refl
insert-at x (y ∷ r) = go (before y x) (insert-at x r)
  where
    q : ℕ
    q = position_or_len (λ y. before y x) r

    go : (b : Bool) → insert x r ≡ take q r ++ (x ∷ drop q r) → cond b (x ∷ (y ∷ r)) (y ∷ insert x r) ≡ take (cond (not b) (1 + q) 0) (y ∷ r) ++ (x ∷ drop (cond (not b) (1 + q) 0) (y ∷ r))
    go true h = refl
    go false h = let e : 1 + q ≡ suc q = omega arith in rw e (ap (λ l. y ∷ l) h)

within : (test : Float → Bool) (l : List Float) → position_or_len test l ≤ length l
within test [] = omega arith
within test (y ∷ r) = go (test y) (within test r)
  where
    go : (b : Bool) → position_or_len test r ≤ length r → cond (not b) (1 + position_or_len test r) 0 ≤ suc (length r)
    go true h = omega arith
    go false h = omega arith

-- where that is, from what a search for it answers
pub placed : (d : List Float) (x : Float) (o : Option ℕ) (r : ℕ) → o ≡ position (λ y. before y x) d → r ≡ unwrap_or o (length d) → (r ≤ length d) × (insert x d ≡ take r d ++ (x ∷ drop r d))
placed d x o r p e = let z : r ≡ q = e ∙ ap (λ (o : Option ℕ). unwrap_or o (length d)) p ∙ there (nat_lt q (length d)) refl in (rw z (within (λ y. before y x) d), rw z (insert-at x d))
  where
    q : ℕ
    q = position_or_len (λ y. before y x) d

    there : (b : Bool) → nat_lt q (length d) ≡ b → unwrap_or (cond b (Some q) None) (length d) ≡ q
    there true h = refl
    there false h = le_antisymm (ltb-false q (length d) h) (within (λ y. before y x) d)

-- the number that is carried through a part stands behind it
pub put_last : (d part : List Float) (p i n : ℕ) (x : Float) → p ≤ i → i < length d → length part ≡ i - p → length part ≤ n → take n part ++ (x ∷ drop n part) ≡ d ‼ i ∷ take (i - p) (drop p d)
    → set (take p d ++ (part ++ drop (i - p) (drop p d))) i x ≡ (take p (take i d) ++ (d ‼ i ∷ drop p (take i d))) ++ drop (i + 1) d
put_last d part p i n x h k m g w =
    let o : p + (i - p) ≡ i = omega arith in
    let a : part ++ (x ∷ []) ≡ d ‼ i ∷ take (i - p) (drop p d) = rw (take_all n part g, drop_of_length-le part g) at w in
    let b : drop (i - p) (drop p d) ≡ d ‼ i ∷ drop (i + 1) d = drop-drop (i - p) p d ∙ rw (o, add-one i) (drop-cons d i nan k) in
    let e : take p (take i d) ≡ take p d = take-take p i d h in
    let f : drop p (take i d) ≡ take (i - p) (drop p d) = ap (λ (j : ℕ). drop p (take j d)) (sym o) ∙ drop-take p (i - p) d in
    let l : length (take p d ++ part) ≡ i = simp (length-append, length-take) (omega arith) in
    rw (b, ← append_assoc (take p d) part (d ‼ i ∷ drop (i + 1) d), set_at (take p d ++ part) (d ‼ i) (drop (i + 1) d) x i l, e, f, ← a)
    (sym (append_snoc (take p d ++ part) x (drop (i + 1) d)) ∙ ap (λ (q : List Float). q ++ drop (i + 1) d) (append_assoc (take p d) part (x ∷ [])))

-- ---- lengths

pub length-insert : (x : Float) (l : List Float) → length (insert x l) ≡ suc (length l)
unfolding insert
length-insert x [] = refl
length-insert x (y ∷ r) = go (before y x) (length-insert x r)
  where
    go : (b : Bool) → length (insert x r) ≡ suc (length r) → length (cond b (x ∷ (y ∷ r)) (y ∷ insert x r)) ≡ suc (suc (length r))
    go true q = refl
    go false q = ap suc q

pub length-falling : (d : List Float) (n : ℕ) → length (falling d n) ≡ n
unfolding falling
length-falling d zero = refl
length-falling d (suc n) = length-insert (d ‼ n) (falling d n) ∙ ap suc (length-falling d n)

pub length-large : (l : List Float) → length (large l) ≤ length l
unfolding large
length-large [] = omega arith
length-large (x ∷ r) = go (lt kept_above x) (length-large r)
  where
    go : (b : Bool) → length (large r) ≤ length r → length (cond b (x ∷ large r) (large r)) ≤ suc (length r)
    go true h = omega arith
    go false h = omega arith

-- ---- the order, one number on

pub order-next : (d d₀ : List Float) (i : ℕ) → i < length d₀ → d ≡ falling d₀ i ++ drop i d₀ → insert (d ‼ i) (take i d) ++ drop (i + 1) d ≡ falling d₀ (i + 1) ++ drop (i + 1) d₀
unfolding falling
order-next d d₀ i h e =
    let s : d ≡ falling d₀ i ++ (d₀ ‼ i ∷ drop (suc i) d₀) = e ∙ ap (λ (l : List Float). falling d₀ i ++ l) (drop-cons d₀ i nan h) in
    let n = length-falling d₀ i in
    let z : drop (suc i) d ≡ drop (suc i) d₀ = rw s (after (falling d₀ i) (d₀ ‼ i) (drop (suc i) d₀) i n) in
    rw (add-one i, z, s, get_or_at (falling d₀ i) (d₀ ‼ i) (drop (suc i) d₀) nan i n, take_at (falling d₀ i) (d₀ ‼ i ∷ drop (suc i) d₀) i n)
  where
    past : (l : List Float) (x : Float) (r : List Float) → drop (suc (length l)) (l ++ (x ∷ r)) ≡ r
    past [] x r = refl
    past (y ∷ l) x r = past l x r

    after : (l : List Float) (x : Float) (r : List Float) (n : ℕ) → length l ≡ n → drop (suc n) (l ++ (x ∷ r)) ≡ r
    after l x r n e = rw (← e) (past l x r)

-- ---- what is kept, one number on

large-append : (l r : List Float) → large (l ++ r) ≡ large l ++ large r
unfolding large
large-append [] r = refl
large-append (x ∷ l) r = go (lt kept_above x) (large-append l r)
  where
    go : (b : Bool) → large (l ++ r) ≡ large l ++ large r → cond b (x ∷ large (l ++ r)) (large (l ++ r)) ≡ cond b (x ∷ large l) (large l) ++ large r
    go true h = ap (λ (z : List Float). x ∷ z) h
    go false h = h

module _ (d : List Float) (t : ℕ) (h : t < length d) where
  one_more : large (take (t + 1) d) ≡ large (take t d) ++ large (d ‼ t ∷ [])
  one_more = rw (add-one t, take-suc d t nan h) (large-append (take t d) (d ‼ t ∷ []))

  pub large-kept : lt kept_above (d ‼ t) ≡ true → large (take (t + 1) d) ≡ large (take t d) ++ (d ‼ t ∷ [])
  unfolding large
  large-kept b = one_more ∙ rw b

  pub large-left : lt kept_above (d ‼ t) ≡ false → large (take (t + 1) d) ≡ large (take t d)
  unfolding large
  large-left b = one_more ∙ rw b (append-nil (large (take t d)))

-- a store right behind the front of a list
pub store-next : (front back : List Float) (x : Float) (n : ℕ) → n ≡ length front → n < length back → set (front ++ drop n back) n x ≡ (front ++ (x ∷ [])) ++ drop (n + 1) back
store-next front back x n e h = rw (drop-cons back n nan h, add-one n) (set_at front (back ‼ n) (drop (suc n) back) x n (sym e) ∙ sym (append_snoc front x (drop (suc n) back)))
