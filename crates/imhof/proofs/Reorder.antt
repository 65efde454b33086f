-- Lists with the same elements in another order, built by putting in one element at a time. One idea: of two elements put in one after the other, either may go first (`swap`);
-- so an element can be taken out of both lists, or put into both, at any place. `reordered` gives the library's permutations. Assumes nothing.
use mathlib.Core.Path.{◌≡◌, refl, sym, ◌∙◌}
use mathlib.Core.List.Permᴰ
use mathlib.Core.List.{List, [], ◌∷◌, ◌++◌, Perm, Permᴰ}

module _ {A : Type 0} where
  -- ys is xs with x put in
  pub data Insert (x : A) : List A → List A → Type 0 where
    here : {y : A} {xs : List A} → x ≡ y → Insert x xs (y ∷ xs)
    there : {y : A} {xs ys : List A} → Insert x xs ys → Insert x (y ∷ xs) (y ∷ ys)

  -- ys is xs in some order
  pub data Same : List A → List A → Type 0 where
    none : Same [] []
    more : {x : A} {xs ys zs : List A} → Insert x ys zs → Same xs ys → Same (x ∷ xs) zs

  -- put in at the end, and in the middle
  pub insert-last : (x : A) (xs : List A) → Insert x xs (xs ++ (x ∷ []))
  insert-last x [] = here refl
  insert-last x (y ∷ xs) = there (insert-last x xs)

  pub insert-middle : (x : A) (xs ys : List A) → Insert x (xs ++ ys) (xs ++ (x ∷ ys))
  insert-middle x [] ys = here refl
  insert-middle x (y ∷ xs) ys = there (insert-middle x xs ys)

  insert-same : {x y : A} {xs ys : List A} → x ≡ y → Insert y xs ys → Insert x xs ys
  insert-same e (here p) = here (e ∙ p)
  insert-same e (there i) = there (insert-same e i)

  -- u was put in after p: p may as well be put in after u
  swap : {u p : A} {a b c : List A} → Insert u b c → Insert p a b → (d : List A) × Insert p d c × Insert u a d
  swap {a = a} (here {y = y} e) j = (y ∷ a, there j, here e)
  swap (there {ys = c} i) (here e) = (c, here e, i)
  swap {u = u} {p = p} (there {xs = xs'} {ys = c} i) (there {y = y} {xs = xs} j) = let s = swap {a = xs} i j in (y ∷ s.0, there s.1, there s.2)

  -- an element taken out of both lists
  pub take_out : {p : A} {xs ys cs : List A} → Insert p ys xs → Same xs cs → (ds : List A) × Insert p ds cs × Same ys ds
  take_out (here e) (more {ys = ds} i s) = (ds, insert-same e i, s)
  take_out (there j) (more i s) =
      let t = take_out j s in
      let w = swap i t.1 in
      (w.0, w.1, more w.2 t.2)

  -- an element put into both lists
  pub put_in : {p : A} {xs ys cs ds : List A} → Insert p ys xs → Same ys ds → Insert p ds cs → Same xs cs
  put_in (here e) s i = more (insert-same (sym e) i) s
  put_in (there j) (more k s) i = let w = swap i k in more w.1 (put_in j s w.2)

  -- the library's permutations
  inserted : {x : A} {xs ys : List A} → Insert x xs ys → Permᴰ (x ∷ xs) ys
  inserted (here {xs = xs} e) = Permᴰ.cons e (Permᴰ.refl xs)
  inserted (there i) = Permᴰ.trans (Permᴰ.swap refl refl) (Permᴰ.cons refl (inserted i))

  reordered-list : {xs ys : List A} → Same xs ys → Permᴰ xs ys
  reordered-list none = Permᴰ.nil
  reordered-list (more i s) = Permᴰ.trans (Permᴰ.cons refl (reordered-list s)) (inserted i)

  pub reordered : {xs ys : List A} → Same xs ys → Perm xs ys
  reordered s = ∣ reordered-list s ∣₁
