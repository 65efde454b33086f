-- Two columns that agree below n have the same differences; and a column stored at its place in a run leaves the ones before it as they were. Assumes nothing.
use mathlib.Core.Path.{◌≡◌, refl, ◌∙◌}
use mathlib.Core.Bool.{Bool, true, false, cond}
use mathlib.Core.List.{List, ◌++◌}
use mathlib.Core.Logic.{⊎_elim}
use Prim.Native.Nat.{ℕ, ◌+◌, ◌-◌, ◌*◌, ◌≤◌, ◌<◌}
use native.Mathlib.Nat.{eq-or-lt_of_le}
use native.Mathlib.Omega.{arith}
use lib.Dec.{ltb}
use lib.ListN.{length, take, drop, get_or-append}
use lib.Seq.{length-take-le, get_or-take, get_or-append-add}
use lib.Ieee.{Float, nan}
use borrow.Author.Tests.{ltb-true}
use Rattle.floats.specs.Words.{◌⊕◌, ◌⊖◌, ◌‼◌}
use Rattle.floats.specs.Tables.{table, part, with_part}
use Rattle.floats.proofs.ListLaws.{row_in, length_part, get_d_part}
use Rattle.floats.proofs.TableLaws.{length-table, get_d-table, table_same}
use Rattle.design.specs.Difference.{difference_before, difference_at}
use Rattle.design.specs.Law.{column_at, difference_of}

module _ (v w : ℕ → Float) (n : ℕ) (same : (t : ℕ) → t < n → v t ≡ w t) where
  before_same : (t : ℕ) → t < n → difference_before v t ≡ difference_before w t
  before_same t l = rw (same t l, same (t - 1) (omega arith))

  pub difference-same : (t : ℕ) → t < n → difference_at v n t ≡ difference_at w n t
  difference-same t l = go (ltb (t + 1) n) refl
    where
      go : (b : Bool) → ltb (t + 1) n ≡ b → cond b (difference_before v t ⊕ (v t ⊖ v (t + 1))) (difference_before v t) ≡ cond b (difference_before w t ⊕ (w t ⊖ w (t + 1))) (difference_before w t)
      go true e = rw (before_same t l, same t l, same (t + 1) (ltb-true (t + 1) n e))
      go false e = before_same t l

-- the differences of a part of a run are those of its numbers where they stand
pub difference-part : (x : List Float) (from n : ℕ) → from + n ≤ length x → table (difference_at (λ t. part from (from + n) x ‼ t) (length (part from (from + n) x))) (length (part from (from + n) x)) ≡ table (difference_at (λ t. x ‼ (from + t)) n) n
difference-part x from n h =
    let e : length (part from (from + n) x) ≡ n = length_part x {a = from} {e = from + n} (omega arith) h ∙ omega arith in
    rw e (table_same _ _ n (difference-same (λ t. part from (from + n) x ‼ t) (λ t. x ‼ (from + t)) n
    (λ t l. get_d_part x {a = from} {e = from + n} (omega arith) h t nan (omega arith))))

module _ (d ys : List Float) (from n : ℕ) (fits : from + n ≤ length d) (size : length ys ≡ n) where
  front : length (take from d) ≡ from
  front = length-take-le from d (omega arith)

  -- within the part that was replaced, and before it
  pub stored_at : (t : ℕ) → t < n → with_part from (from + n) d ys ‼ (from + t) ≡ ys ‼ t
  stored_at t l =
      rw front at (get_or-append-add (take from d) (ys ++ drop (from + n - from) (drop from d)) t nan)
      ∙ get_or-append ys (drop (from + n - from) (drop from d)) nan t (rw size l)

  pub stored-before : (p : ℕ) → p < from → with_part from (from + n) d ys ‼ p ≡ d ‼ p
  stored-before p l = get_or-append (take from d) (ys ++ drop (from + n - from) (drop from d)) nan p (rw front l) ∙ get_or-take from d p nan l

-- d holds the first k columns of A X, laid out as those of X
abbrev pub Differences : List Float → ℕ → ℕ → List Float → Type 0
Differences x n k d = (j t : ℕ) → j < k → t < n → column_at d n j t ≡ difference_of x n j t

-- one column more
pub differences-more : (x d : List Float) (n j : ℕ) → j * n + n ≤ length d → Differences x n j d → Differences x n (j + 1) (with_part (j * n) (j * n + n) d (table (difference_of x n j) n))
differences-more x d n j h w i t l m =
    let z = length-table (difference_of x n j) n in
    ⊎_elim (λ e. rw e (stored_at d (table (difference_of x n j) n) (j * n) n h z t m ∙ get_d-table (difference_of x n j) n t nan m))
    (λ k. stored-before d (table (difference_of x n j) n) (j * n) n h z (i * n + t) (omega (arith, row_in n {i = i} {k = j} k)) ∙ w i t k m)
    (eq-or-lt_of_le {n = i} {m = j} (omega arith))
