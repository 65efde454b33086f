-- From rows and sums to the definitions: what the loops of this crate leave is X (X'X)^-1 X', M and A M, entry by entry. Assumes nothing.
use Prim.Native.Nat.{ℕ, ◌+◌, ◌*◌, ◌-◌, ◌≤◌, ◌<◌}
use native.Mathlib.Nat.{zero-add, not-suc-le-zero}
use native.Mathlib.Omega.{arith}
use mathlib.Core.Path.{◌≡◌, ap, ◌∙◌}
use mathlib.Core.Logic.{⊎_elim}
use mathlib.Core.List.{List}
use lib.ListN.{length}
use lib.Ieee.{Float, nan, neg, sub}
use borrow.Author.Tests.{lt-ltb, le-ltb}
use Rattle.floats.specs.Limits.{max_rows}
use Rattle.floats.specs.Words.{◌⊕◌, ◌⊖◌, ◌⊗◌, ◌‼◌, minus_zero, plus_zero}
use Rattle.floats.specs.Tables.{table, triangle, half, with_part}
use Rattle.floats.specs.Matrix.{half_entry}
use Rattle.floats.proofs.Commutes.{product-swap}
use Rattle.floats.proofs.ListLaws.{row_in}
use Rattle.floats.proofs.TableLaws.{length-table, get_d-table, table_same}
use Rattle.floats.proofs.MatrixLaws.{lt-or-le, part-before, part-inside}
use Rattle.floats.proofs.HalfLaws.{triangle-apart, triangle-up, half-low, length-half, place-half, half-same, rows_to, rows_none, rows_all}
use Rattle.rows.specs.Terms.{Reach, sum_from}
use Rattle.rows.proofs.TermLaws.{from-same, sum-from}
use Rattle.design.specs.Law.{column_at}
use Rattle.design.specs.Difference.{difference_before, difference_at}
use Rattle.projection.specs.Loaded.{Loaded}
use Rattle.projection.specs.Projection.{weight, hat, residual}
use Rattle.projection.proofs.IdentityLaws.{identified}
use Rattle.projection.proofs.TriangleLaws.{half-fill, row_new}

-- runs of n that stand a stride apart, of which a row up to the diagonal is a part
pub reach-rows : (n stride i k l : ℕ) → i < n → n ≤ stride → k * stride ≤ l → Reach k stride (i + 1) l
reach-rows n stride i k l h d b s c = let z = row_in stride c in omega arith

module _ (x : List Float) (inv : List (List Float)) (n k : ℕ) where
  -- ---- X (X'X)^-1 X', of the first i rows
  abbrev pub hat_to : ℕ → List Float
  hat_to i = rows_to n (hat x inv n k) (λ r c. minus_zero) i

  pub hat-none : table (λ p. minus_zero) (triangle n) ≡ hat_to 0
  hat-none = half-fill minus_zero n ∙ rows_none n (hat x inv n k) (λ r c. minus_zero)

  pub hat-row : (i : ℕ) (m us : List Float) → i < n → m ≡ hat_to i → us ≡ table (λ c. weight x inv n k i c) k
      → with_part (triangle i) (triangle i + (i + 1)) m (table (λ c. sum_from (m ‼ (triangle i + c)) (length us) (λ s. x ‼ (s * n + c) ⊗ us ‼ s)) (i + 1)) ≡ hat_to (i + 1)
  unfolding hat
  hat-row i m us h p q =
      rw p (row_new n (hat x inv n k) (λ r c. minus_zero) i (λ c y. sum_from y (length us) (λ s. x ‼ (s * n + c) ⊗ us ‼ s)) h
      (λ j l. ap (λ z. sum_from minus_zero z (λ s. x ‼ (s * n + j) ⊗ us ‼ s)) (ap length q ∙ length-table (weight x inv n k i) k)
      ∙ from-same minus_zero k (λ s. x ‼ (s * n + j) ⊗ us ‼ s) (λ c. weight x inv n k i c ⊗ column_at x n c j)
      (λ s b. product-swap (x ‼ (s * n + j)) (us ‼ s) ∙ ap (λ z. z ⊗ x ‼ (s * n + j)) (ap (λ b. b ‼ s) q ∙ get_d-table (weight x inv n k i) k s nan b))
      ∙ sum-from k (λ c. weight x inv n k i c ⊗ column_at x n c j)))

  pub hat-all : hat_to n ≡ half (hat x inv n k) n
  hat-all = rows_all n (hat x inv n k) (λ r c. minus_zero)

  -- ---- M
  -- 1 less a number is 1 plus its opposite
  pub residual-of : (h a : List Float) → h ≡ half (hat x inv n k) n → a ≡ table (λ p. neg (h ‼ p)) (length h) → half (identified (half_entry a)) n ≡ half (residual x inv n k) n
  unfolding residual identified sub
  residual-of h a p q = half-same n (identified (half_entry a)) (residual x inv n k) (λ i j l m. rw (negated i j l m))
    where
      negated : (i j : ℕ) → i < n → j ≤ i → half_entry a i j ≡ neg (hat x inv n k i j)
      negated i j l m =
          half-low a i j m
          ∙ rw (q, p) (get_d-table (λ p. neg (half (hat x inv n k) n ‼ p)) (length (half (hat x inv n k) n)) (triangle i + j) nan (omega (arith, triangle-apart l, length-half (hat x inv n k) n))
          ∙ ap neg (place-half (hat x inv n k) n i j l m))

-- ---- A M: row t is made of rows t - 1, t and t + 1 of M

-- row s of the whole of M, as it is copied from the half
abbrev pub row_at : List Float → ℕ → ℕ → List Float
row_at m n s = table (λ j. half_entry m s j) n

pub row_copied : (m : List Float) (n s k : ℕ) → k ≡ n → table (λ j. half_entry m s (0 + j)) k ≡ row_at m n s
row_copied m n s k e = rw e (table_same _ _ n (λ j l. rw zero-add))

-- and as it is moved on
pub row_moved : (m here : List Float) (n s k : ℕ) → k ≡ n → here ≡ row_at m n s → table (λ j. here ‼ j) k ≡ row_at m n s
row_moved m here n s k e q = rw e (table_same _ _ n (λ j l. rw q (get_d-table (half_entry m s) n j nan l)))

-- what the copy asks
pub row_fits : (m row : List Float) (n s : ℕ) → length m ≡ triangle n → n ≤ max_rows → s < n → length row ≡ n
    → (s < max_rows) × (0 + length row ≤ max_rows) × (triangle (s + 1) ≤ length m) × (triangle (0 + length row) ≤ length m)
row_fits m row n s e b h l =
    (omega arith, omega arith, omega (arith, triangle-up {i = s + 1} {r = n} (omega arith)), rw (zero-add, l, e) (omega arith))

module _ (n t : ℕ) (m : List Float) where
  -- with the row before, where there is one, and then the row after
  abbrev pub behind : List Float
  behind = table (λ j. difference_before (λ s. half_entry m s j) t) n

  abbrev ahead : List Float
  ahead = table (λ j. difference_at (λ s. half_entry m s j) n t) n

  pub behind-first : t ≤ 0 → table (λ j. plus_zero) n ≡ behind
  behind-first h = table_same _ _ n (λ j l. rw (le-ltb 0 t h))

  pub behind-later : (before here : List Float) → 0 < t → before ≡ row_at m n (t - 1) → here ≡ row_at m n t → table (λ j. plus_zero ⊕ (here ‼ j ⊖ before ‼ j)) n ≡ behind
  behind-later before here h p q =
      table_same _ _ n (λ j l. rw (lt-ltb 0 t h, p, q, get_d-table (half_entry m t) n j nan l, get_d-table (half_entry m (t - 1)) n j nan l))

  pub ahead-last : n ≤ t + 1 → behind ≡ ahead
  ahead-last h = table_same _ _ n (λ j l. rw (le-ltb (t + 1) n h))

  pub ahead-earlier : (w here next : List Float) → t + 1 < n → w ≡ behind → here ≡ row_at m n t → next ≡ row_at m n (t + 1) → table (λ j. w ‼ j ⊕ (here ‼ j ⊖ next ‼ j)) n ≡ ahead
  ahead-earlier w here next h e p q =
      table_same _ _ n
      (λ j l. rw (lt-ltb (t + 1) n h, e, p, q, get_d-table (λ j. difference_before (λ s. half_entry m s j) t) n j nan l, get_d-table (half_entry m t) n j nan l, get_d-table (half_entry m (t + 1)) n j nan l))

-- rows t to t + k - 1 of A M, a stride apart: what the first s of them are
module _ (stride n t : ℕ) (m : List Float) where
  pub loaded-none : (w : List Float) → Loaded stride n t m 0 w
  loaded-none w s j h l = absurd (not-suc-le-zero h)

  pub loaded-more : (s : ℕ) (w ys : List Float) → n ≤ stride → s * stride + n ≤ length w → Loaded stride n t m s w → ys ≡ table (λ j. difference_at (λ r. half_entry m r j) n (t + s)) n
      → Loaded stride n t m (s + 1) (with_part (s * stride) (s * stride + n) w ys)
  loaded-more s w ys f b old e r j h l =
      ⊎_elim (λ (d : r < s). part-before w ys {a = s * stride} {e = s * stride + n} (omega arith) b size (r * stride + j) (omega (arith, row_in stride d)) ∙ old r j d l)
      (λ (d : s ≤ r). let z : r ≡ s = omega arith in
      rw z (part-inside w ys {a = s * stride} {e = s * stride + n} (omega arith) b size j (omega arith) ∙ rw e (get_d-table (λ j. difference_at (λ r. half_entry m r j) n (t + s)) n j nan l)))
      (lt-or-le r s)
    where
      size : length ys ≡ s * stride + n - s * stride
      size = ap length e ∙ length-table (λ j. difference_at (λ r. half_entry m r j) n (t + s)) n ∙ omega arith
