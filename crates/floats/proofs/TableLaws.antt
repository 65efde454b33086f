-- Laws of tables: their lengths and entries, tables that agree, a function at each entry, and runs as the tables of their numbers. Assumes nothing.
use Prim.Native.Nat.{ℕ, zero, suc, ◌<◌, ◌≤◌}
use native.Mathlib.Nat.{eq-or-lt_of_le, not-suc-le-zero}
use native.Mathlib.Omega.{arith}
use mathlib.Core.Path.{◌≡◌, refl, sym, ◌∙◌, subst}
use mathlib.Core.Logic.{⊎_elim}
use mathlib.Core.List.{List, [], ◌∷◌, map, map-append}
use lib.ListN.{get_or, length, take, replicate, length-append, get_or-append}
use lib.Ieee.{Float, nan}
use lib.Seq.{get_or_at, ext_get_or}
use Rattle.std.proofs.lemmas.List.{length-replicate, get_or-replicate, length-take-le, get_or-take}
use Rattle.floats.specs.Words.{◌‼◌}
use Rattle.floats.specs.Tables.{table}

module _ {A : Type 0} (g : ℕ → A) where
  pub length-table : (k : ℕ) → length (table g k) ≡ k
  unfolding table
  length-table zero = refl
  length-table (suc k) = let h = length-table k in length-append (table g k) (g k ∷ []) ∙ omega arith

  pub get_d-table : (k i : ℕ) (d : A) → i < k → get_or (table g k) i d ≡ g i
  unfolding table
  get_d-table zero i d h = absurd (not-suc-le-zero h)
  get_d-table (suc k) i d h =
      ⊎_elim (λ e. rw e (get_or_at (table g k) (g k) [] d k (length-table k)))
      (λ l. get_or-append (table g k) (g k ∷ []) d i (rw (length-table k) l) ∙ get_d-table k i d l)
      (eq-or-lt_of_le {n = i} {m = k} (omega arith))

-- tables whose entries agree are the same
pub table_same : {A : Type 0} (f g : ℕ → A) (n : ℕ) → ((j : ℕ) → j < n → f j ≡ g j) → table f n ≡ table g n
unfolding table
table_same f g zero h = refl
table_same f g (suc n) h = rw (table_same f g n (λ j l. h j (omega arith)), h n (omega arith))

-- a function at each entry of a table is a table
pub map-table : {A B : Type 0} (f : A → B) (g : ℕ → A) (n : ℕ) → map f (table g n) ≡ table (λ j. f (g j)) n
unfolding table
map-table f g zero = refl
map-table f g (suc n) = map-append f (table g n) (g n ∷ []) ∙ rw (map-table f g n)

-- the table of a run's numbers is the run
pub table-run : (xs : List Float) → table (λ j. xs ‼ j) (length xs) ≡ xs
table-run xs =
    ext_get_or nan (table (λ j. xs ‼ j) (length xs)) xs (length-table (λ j. xs ‼ j) (length xs))
    (λ i h. get_d-table (λ j. xs ‼ j) (length xs) i nan (subst (λ (n : ℕ). i < n) (length-table (λ j. xs ‼ j) (length xs)) h))

-- a run known number by number is the table of them
pub is-table : (f : ℕ → Float) (l r : List Float) → length r ≡ length l → ((j : ℕ) → j < length l → r ‼ j ≡ f j) → r ≡ table f (length l)
is-table f l r e h =
    ext_get_or nan r (table f (length l)) (e ∙ sym (length-table f (length l)))
    (λ j k. let b : j < length l = omega arith in h j b ∙ sym (get_d-table f (length l) j nan b))

-- one number over and over, and the first numbers of a run
pub replicate-table : (x : Float) (n : ℕ) → replicate n x ≡ table (λ j. x) n
replicate-table x n =
    ext_get_or nan (replicate n x) (table (λ j. x) n) (length-replicate n x ∙ sym (length-table (λ j. x) n))
    (λ j k. let b : j < n = omega (arith, length-replicate n x) in get_or-replicate n j x nan b ∙ sym (get_d-table (λ j. x) n j nan b))

pub take-table : (xs : List Float) (n : ℕ) → n ≤ length xs → take n xs ≡ table (λ j. xs ‼ j) n
take-table xs n l =
    ext_get_or nan (take n xs) (table (λ j. xs ‼ j) n) (length-take-le n xs l ∙ sym (length-table (λ j. xs ‼ j) n))
    (λ j k. let b : j < n = omega (arith, length-take-le n xs l) in get_or-take n xs j nan b ∙ sym (get_d-table (λ j. xs ‼ j) n j nan b))
