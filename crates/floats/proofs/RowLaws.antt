-- Loops that store number j of a run at turn j, first to last: after j turns the run is `filled f j l`, its first j numbers new and the rest as they were.
-- The one idea: number j is still the old one when turn j reads it. Assumes nothing.
use Prim.Native.Nat.{ℕ, suc, ◌+◌, ◌≤◌, ◌<◌}
use native.Mathlib.Nat.{le_antisymm}
use native.Mathlib.Numerals.{add-one}
use native.Mathlib.Omega.{arith}
use mathlib.Core.Path.{◌≡◌, refl, ap, sym, ◌∙◌}
use mathlib.Core.List.{List, ◌∷◌, ◌++◌, append-nil, append_assoc}
use lib.ListN.{length, get_or, set, drop, length-append, length-drop, length-set}
use lib.Dec.{eqb}
use lib.Seq.{drop-cons, drop-length, set_at, get_or_at, get_or-set_same, get_or-set_other, ext_get_or}
use native.Mathlib.Decide.{ℕ_discrete}
use mathlib.Core.Bool.{cond}
use borrow.Author.Tests.{ne_eqb}
use Rattle.floats.specs.Tables.{table}
use Rattle.floats.proofs.TableLaws.{length-table, get_d-table}

module _ {A : Type 0} (f : ℕ → A) where
  abbrev pub filled : ℕ → List A → List A
  filled j l = table f j ++ drop j l

  pub filled_none : (l : List A) → l ≡ filled 0 l
  unfolding table
  filled_none l = refl

  module _ (l : List A) (j : ℕ) (d : A) (h : j < length l) where
    split : filled j l ≡ table f j ++ (get_or l j d ∷ drop (suc j) l)
    split = rw (drop-cons l j d)

    -- what turn j reads
    pub filled-here : get_or (filled j l) j d ≡ get_or l j d
    filled-here = ap (λ x. get_or x j d) split ∙ get_or_at (table f j) (get_or l j d) (drop (suc j) l) d j (length-table f j)

    -- what turn j stores
    pub filled_more : set (filled j l) j (f j) ≡ filled (j + 1) l
    unfolding table
    filled_more = ap (λ x. set x j (f j)) split ∙ set_at (table f j) (get_or l j d) (drop (suc j) l) (f j) j (length-table f j) ∙ rw (add-one j, append_assoc)

  pub length-filled : (l : List A) (j : ℕ) → j ≤ length l → length (filled j l) ≡ length l
  length-filled l j h = simp (length-append, length-drop, length-table) (omega arith)

  pub filled-all : (l : List A) (j : ℕ) → j ≤ length l → length l ≤ j → filled j l ≡ table f (length l)
  filled-all l j h k = rw (le_antisymm h k, drop-length, append-nil)

-- a run of one number, with another in the first place
pub lead-table : {A : Type 0} (x y : A) (k : ℕ) → 0 < k → set (table (λ j. y) k) 0 x ≡ table (λ j. cond (eqb j 0) x y) k
lead-table x y k h =
    ext_get_or y (set (table (λ j. y) k) 0 x) (table (λ j. cond (eqb j 0) x y) k)
    (length-set (table (λ j. y) k) 0 x ∙ length-table (λ j. y) k ∙ sym (length-table (λ j. cond (eqb j 0) x y) k))
    (λ p b. let l : p < k = omega (arith, length-set (table (λ j. y) k) 0 x, length-table (λ j. y) k) in
    pick p l (ℕ_discrete p 0) ∙ sym (get_d-table (λ j. cond (eqb j 0) x y) k p y l))
  where
    pick : (p : ℕ) → p < k → Dec (p ≡ 0) → get_or (set (table (λ j. y) k) 0 x) p y ≡ cond (eqb p 0) x y
    pick p l (yes e) = rw e (get_or-set_same (table (λ j. y) k) 0 x y (omega (arith, length-table (λ j. y) k)))
    pick p l (no e) = rw (ne_eqb p 0 e) (get_or-set_other (table (λ j. y) k) 0 p x y e ∙ get_d-table (λ j. y) k p y l)
