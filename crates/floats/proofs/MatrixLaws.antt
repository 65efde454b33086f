-- Whole matrices entry by entry: a run of n n numbers is the matrix whose entries it has (`square-of`). And the numbers of a run of which a part was replaced. Assumes nothing.
use Prim.Native.Nat.{ℕ, zero, suc, ◌+◌, ◌*◌, ◌-◌, ◌/◌, ◌%◌, ◌≤◌, ◌<◌, min, max}
use native.Mathlib.Nat.{div-add-mod', mod-lt, div-lt_iff_lt-mul, not-suc-le-zero, max-eq_left, max-eq_right, min-eq_left, min-eq_right, max_comm, min_comm}
use native.Mathlib.Omega.{arith}
use mathlib.Core.Path.{◌≡◌, refl, ap, sym, ◌∙◌}
use mathlib.Core.Logic.{◌⊎◌, inl, inr, ⊎_elim}
use mathlib.Core.Bool.{Bool, true, false}
use mathlib.Core.List.{List, ◌++◌}
use lib.Dec.{ltb}
use lib.ListN.{length, take, drop, get_or-append}
use lib.Seq.{ext_get_or, get_or-append-add, get_or-take, get_or-drop, length-take-le}
use lib.Arith.{digits_lt, digits_div, digits_mod}
use lib.Ieee.{Float, nan}
use borrow.Author.Tests.{ltb-true, ltb-false}
use Rattle.floats.specs.Words.{◌‼◌}
use Rattle.floats.specs.Tables.{square, symmetric, with_part}
use Rattle.floats.proofs.TableLaws.{length-table, get_d-table}
use Rattle.floats.specs.Matrix.{entry, Symmetric}

-- ---- parts of a run

module _ (l ys : List Float) {a e : ℕ} (h : a ≤ e) (k : e ≤ length l) (m : length ys ≡ e - a) where
  front : length (take a l) ≡ a
  front = length-take-le a l (omega arith)

  -- number p of l with a part replaced: before the part, in it, and after it
  pub part-before : (p : ℕ) → p < a → with_part a e l ys ‼ p ≡ l ‼ p
  part-before p b = get_or-append (take a l) (ys ++ drop (e - a) (drop a l)) nan p (rw front b) ∙ get_or-take a l p nan b

  pub part-inside : (p : ℕ) → p < e - a → with_part a e l ys ‼ (a + p) ≡ ys ‼ p
  part-inside p b =
      ap (λ (z : ℕ). with_part a e l ys ‼ (z + p)) (sym front) ∙ get_or-append-add (take a l) (ys ++ drop (e - a) (drop a l)) p nan
      ∙ get_or-append ys (drop (e - a) (drop a l)) nan p (rw m b)

  pub part-after : (p : ℕ) → e ≤ p → with_part a e l ys ‼ p ≡ l ‼ p
  part-after p b =
      let q : p ≡ length (take a l) + (length ys + (p - e)) = omega (arith, front) in
      let r : a + ((e - a) + (p - e)) ≡ p = omega arith in
      ap (λ (z : ℕ). with_part a e l ys ‼ z) q ∙ get_or-append-add (take a l) (ys ++ drop (e - a) (drop a l)) (length ys + (p - e)) nan
      ∙ get_or-append-add ys (drop (e - a) (drop a l)) (p - e) nan ∙ get_or-drop (e - a) (drop a l) (p - e) nan ∙ get_or-drop a l ((e - a) + (p - e)) nan
      ∙ ap (λ (z : ℕ). l ‼ z) r

-- ---- a matrix by its entries

pub above : (n : ℕ) {p : ℕ} → p < n * n → 0 < n
above zero h = absurd (not-suc-le-zero h)
above (suc n) h = omega arith

pub lt-or-le : (a b : ℕ) → (a < b) ⊎ (b ≤ a)
lt-or-le a b = pick (ltb a b) refl
  where
    pick : (t : Bool) → ltb a b ≡ t → (a < b) ⊎ (b ≤ a)
    pick true e = inl (ltb-true a b e)
    pick false e = inr (ltb-false a b e)

module _ (n : ℕ) (f : ℕ → ℕ → Float) where
  pub length-square : length (square f n) ≡ n * n
  length-square = length-table _ (n * n)

  pub entry-square : (i j : ℕ) → i < n → j < n → entry n (square f n) i j ≡ f i j
  entry-square i j h k =
      get_d-table (λ p. f (p / n) (p % n)) (n * n) (i * n + j) nan (digits_lt {q = i} {m = n} {r = j} {c = n} h k)
      ∙ rw (digits_div i k, digits_mod i k)

  -- a run of n n numbers with these entries is this matrix
  pub square-of : (a : List Float) → length a ≡ n * n → ((i j : ℕ) → i < n → j < n → entry n a i j ≡ f i j) → a ≡ square f n
  square-of a e h =
      ext_get_or nan a (square f n) (e ∙ sym length-square)
      (λ p b. let b' : p < n * n = omega arith in
      let o : 0 < n = above n b' in
      let x = h (p / n) (p % n) ((div-lt_iff_lt-mul o).1 b') (mod-lt p o) in
      rw div-add-mod' at x ∙ sym (get_d-table (λ p. f (p / n) (p % n)) (n * n) p nan b'))

pub square-same : (n : ℕ) (f g : ℕ → ℕ → Float) → ((i j : ℕ) → i < n → j < n → f i j ≡ g i j) → square f n ≡ square g n
square-same n f g h = square-of n g (square f n) (length-square n f) (λ i j k l. entry-square n f i j k l ∙ h i j k l)

-- ---- symmetric matrices

pub larger-in : {n : ℕ} (i j : ℕ) → i < n → j < n → max i j < n
larger-in {n} i j h k = ⊎_elim (λ (b : i < j). let l : i ≤ j = omega arith in rw (max-eq_right l) k) (λ (b : j ≤ i). rw (max-eq_left b) h) (lt-or-le i j)

pub smaller-in : (i j : ℕ) → min i j ≤ max i j
smaller-in i j = ⊎_elim (λ (b : i < j). let l : i ≤ j = omega arith in rw (max-eq_right l, min-eq_left l) l) (λ (b : j ≤ i). rw (max-eq_left b, min-eq_right b) b) (lt-or-le i j)

pub length-symmetric : (n : ℕ) (f : ℕ → ℕ → Float) → length (symmetric f n) ≡ n * n
length-symmetric n f = length-square n (λ i j. f (max i j) (min i j))

pub entry-symmetric : (n : ℕ) (f : ℕ → ℕ → Float) (i j : ℕ) → i < n → j < n → entry n (symmetric f n) i j ≡ f (max i j) (min i j)
entry-symmetric n f i j h k = entry-square n (λ i j. f (max i j) (min i j)) i j h k

-- a matrix that was mirrored is symmetric
pub is-symmetric : (n : ℕ) (f : ℕ → ℕ → Float) → Symmetric n (symmetric f n)
is-symmetric n f i j h k = entry-symmetric n f i j h k ∙ rw (max_comm i j, min_comm i j) (sym (entry-symmetric n f j i k h))

-- what is worked out where j ≤ i decides it
pub symmetric-same : (n : ℕ) (f g : ℕ → ℕ → Float) → ((i j : ℕ) → i < n → j ≤ i → f i j ≡ g i j) → symmetric f n ≡ symmetric g n
symmetric-same n f g e =
    square-same n (λ i j. f (max i j) (min i j)) (λ i j. g (max i j) (min i j)) (λ i j h k. e (max i j) (min i j) (larger-in i j h k) (smaller-in i j))
