-- Sums over rows of a half that stand one after another, a few at a time. The one idea: after s rows of a corner the first s numbers have their first s terms each, and the turn for
-- row s gives each of them one term more and number s its first s + 1 (`corner-more`). Assumes nothing.
use Prim.Native.Nat.{ℕ, zero, suc, ◌+◌, ◌*◌, ◌≤◌, ◌<◌, min, max}
use native.Mathlib.Nat.{max-eq_left, max-eq_right, min-eq_left, min-eq_right, zero-add}
use native.Mathlib.Numerals.{add-one}
use native.Mathlib.Omega.{arith}
use mathlib.Core.Path.{◌≡◌, refl, ap, sym, ◌∙◌}
use mathlib.Core.List.{List, ◌++◌}
use lib.ListN.{length, set, drop, get_or-append}
use lib.Seq.{drop_at}
use lib.Ieee.{Float, nan}
use Rattle.floats.specs.Words.{◌⊕◌, ◌⊗◌, ◌‼◌}
use Rattle.floats.specs.Sums.{sum_of, sum_products}
use Rattle.floats.specs.Tables.{table}
use Rattle.floats.proofs.ListLaws.{sum_same}
use Rattle.floats.proofs.RowLaws.{filled, filled-here, filled_more}
use Rattle.floats.proofs.TableLaws.{length-table, get_d-table, table_same}
use Rattle.rows.specs.Terms.{sum_from}
use Rattle.halves.specs.RowStarts.{row_start, ReachRows}
use Rattle.rows.proofs.TermLaws.{from_more, from-same}

-- ---- where rows begin

module _ (stride : ℕ) where
  pub start_none : row_start stride 0 ≡ 0
  unfolding row_start
  start_none = refl

  pub start-more : (s : ℕ) → row_start stride (s + 1) ≡ row_start stride s + (stride + s)
  unfolding row_start
  start-more s = rw add-one

  -- row k + t is row t, counted from row k
  pub start-group : (k t : ℕ) → row_start stride (k + t) ≡ row_start stride k + row_start (stride + k) t
  unfolding row_start
  start-group k zero = let z : k + 0 ≡ k = omega arith in rw z (omega arith)
  start-group k (suc t) = let z : k + suc t ≡ suc (k + t) = omega arith in let y = start-group k t in rw z (omega arith)

  -- from row 4, as `add_eight` does
  pub start-fifth : (t j : ℕ) → 4 * stride + 6 + j + row_start (stride + 4) t ≡ row_start stride (4 + t) + j
  unfolding row_start
  start-fifth t j = let y = start-group 4 t in omega arith

  -- eight rows end where the last of them ends
  pub eight-reach : (m l : ℕ) → ReachRows 8 stride m l → 7 * stride + 21 + m ≤ l
  unfolding row_start
  eight-reach m l r = let y = r 7 (omega arith) in omega arith

-- ---- sums side by side

module _ (xs : List Float) (stride : ℕ) (v : List Float) where
  -- term j of the sum of products of row s with v
  unfoldable pub dot_term : ℕ → ℕ → Float
  dot_term s j = xs ‼ (row_start stride s + j) ⊗ v ‼ j

  pub dot-more : (s j p : ℕ) → p ≡ row_start stride s + j → sum_of j (dot_term s) ⊕ xs ‼ p ⊗ v ‼ j ≡ sum_of (j + 1) (dot_term s)
  unfolding sum_of dot_term
  dot-more s j p e = rw (e, add-one j)

  -- the sum of one row
  pub one-sum : (s start : ℕ) → start ≡ row_start stride s → sum_products xs start v 0 (length v) ≡ sum_of (length v) (dot_term s)
  unfolding dot_term
  one-sum s start e = rw e (sum_same (length v) _ _ (λ j l. rw zero-add))

-- ---- the corner

module _ (p xs : List Float) (stride : ℕ) (v : List Float) where
  -- term u of number s
  unfoldable pub corner_term : ℕ → ℕ → Float
  corner_term s u = xs ‼ (row_start stride (max s u) + min s u) ⊗ v ‼ u

  -- number u with its first k terms; and the numbers after k rows
  abbrev pub corner_sum : ℕ → ℕ → Float
  corner_sum k u = sum_from (p ‼ u) k (corner_term u)

  abbrev pub corner_to : ℕ → List Float
  corner_to k = filled (corner_sum k) k p

  module _ (s start : ℕ) (e : start ≡ row_start stride s) (h : s < length p) where
    -- a term of number s, up to the diagonal
    own-term : (u : ℕ) → u ≤ s → xs ‼ (start + u) ⊗ v ‼ u ≡ corner_term s u
    unfolding corner_term
    own-term u l = rw (e, max-eq_left l, min-eq_right l)

    -- and the term that row s gives to a number before
    given-term : (u : ℕ) → u < s → xs ‼ (start + u) ⊗ v ‼ s ≡ corner_term u s
    unfolding corner_term
    given-term u l = let k : u ≤ s = omega arith in rw (e, max-eq_right k, min-eq_left k)

    -- the numbers before s, and number s
    before : filled (λ u. corner_to s ‼ u ⊕ xs ‼ (start + u) ⊗ v ‼ s) s (corner_to s) ≡ filled (corner_sum (s + 1)) s p
    before =
        ap (λ l. table (λ u. corner_to s ‼ u ⊕ xs ‼ (start + u) ⊗ v ‼ s) s ++ l) (drop_at (table (corner_sum s) s) (drop s p) s (length-table (corner_sum s) s))
        ∙ ap (λ l. l ++ drop s p)
        (table_same _ _ s (λ u l. rw (get_or-append (table (corner_sum s) s) (drop s p) nan u (rw (length-table (corner_sum s) s) l) ∙ get_d-table (corner_sum s) s u nan l, given-term u l) (sym (from_more (p ‼ u) (corner_term u) s))))

    own : sum_from (corner_to s ‼ s) s (λ u. xs ‼ (start + u) ⊗ v ‼ u) ⊕ xs ‼ (start + s) ⊗ v ‼ s ≡ corner_sum (s + 1) s
    own =
        ap (λ x. sum_from x s (λ u. xs ‼ (start + u) ⊗ v ‼ u) ⊕ xs ‼ (start + s) ⊗ v ‼ s) (filled-here (corner_sum s) p s nan h)
        ∙ rw (from-same (p ‼ s) s _ (corner_term s) (λ u l. own-term u (omega arith)), own-term s (omega arith)) (sym (from_more (p ‼ s) (corner_term s) s))

    pub corner-more : set (filled (λ u. corner_to s ‼ u ⊕ xs ‼ (start + u) ⊗ v ‼ s) s (corner_to s)) s (sum_from (corner_to s ‼ s) s (λ u. xs ‼ (start + u) ⊗ v ‼ u) ⊕ xs ‼ (start + s) ⊗ v ‼ s) ≡ corner_to (s + 1)
    corner-more = rw (before, own) (filled_more (corner_sum (s + 1)) p s nan h)
