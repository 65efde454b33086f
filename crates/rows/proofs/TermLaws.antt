-- Laws of sums that go on: none, one more, and that the terms may be added in groups. Assumes nothing.
use Prim.Native.Nat.{ℕ, zero, suc, ◌+◌, ◌*◌, ◌≤◌, ◌<◌}
use native.Mathlib.Nat.{add-mul}
use native.Mathlib.Numerals.{add-one}
use native.Mathlib.Omega.{arith}
use mathlib.Core.Path.{◌≡◌, refl, ap, sym, ◌∙◌}
use mathlib.Core.List.{List}
use lib.ListN.{length}
use lib.Seq.{ext_get_or}
use lib.Ieee.{Float, nan}
use Rattle.floats.specs.Words.{◌⊕◌, ◌⊗◌, ◌‼◌, minus_zero}
use Rattle.floats.specs.Sums.{sum_of}
use Rattle.floats.specs.Tables.{table, part}
use Rattle.floats.proofs.ListLaws.{get_d_part}
use Rattle.floats.proofs.TableLaws.{length-table, get_d-table, table_same}
use Rattle.rows.specs.Terms.{sum_from}

module _ (x : Float) (f : ℕ → Float) where
  pub from-none : sum_from x 0 f ≡ x
  unfolding sum_from
  from-none = refl

  pub from_more : (k : ℕ) → sum_from x (k + 1) f ≡ sum_from x k f ⊕ f k
  unfolding sum_from
  from_more k = rw add-one

  -- t terms, and then k more
  pub from-group : (t k : ℕ) → sum_from (sum_from x t f) k (λ s. f (t + s)) ≡ sum_from x (t + k) f
  unfolding sum_from
  from-group t zero = let z : t + 0 ≡ t = omega arith in rw z
  from-group t (suc k) = let z : t + suc k ≡ suc (t + k) = omega arith in rw z (ap (λ y. y ⊕ f (t + k)) (from-group t k))

-- terms that agree below k
pub from-same : (x : Float) (k : ℕ) (f g : ℕ → Float) → ((t : ℕ) → t < k → f t ≡ g t) → sum_from x k f ≡ sum_from x k g
unfolding sum_from
from-same x zero f g h = refl
from-same x (suc k) f g h = rw (from-same x k f g (λ t l. h t (omega arith)), h k (omega arith))

-- a sum is one that goes on from -0
pub sum-from : (k : ℕ) (f : ℕ → Float) → sum_from minus_zero k f ≡ sum_of k f
unfolding sum_from sum_of
sum-from zero f = refl
sum-from (suc k) f = rw (sum-from k f)

-- and one of t terms goes on to k more
pub sum-group : (t k : ℕ) (f : ℕ → Float) → sum_from (sum_of t f) k (λ s. f (t + s)) ≡ sum_of (t + k) f
sum-group t k f = ap (λ x. sum_from x k (λ s. f (t + s))) (sym (sum-from t f)) ∙ from-group minus_zero f t k ∙ sum-from (t + k) f

-- ---- four terms, four at a time

pub four-of : (x : Float) (xs w : List Float) (place : ℕ → ℕ) (a b c d s : ℕ) → place 0 ≡ a → place 1 ≡ b → place 2 ≡ c → place 3 ≡ d
    → x ⊕ xs ‼ a ⊗ w ‼ s ⊕ xs ‼ b ⊗ w ‼ (s + 1) ⊕ xs ‼ c ⊗ w ‼ (s + 2) ⊕ xs ‼ d ⊗ w ‼ (s + 3) ≡ sum_from x 4 (λ t. xs ‼ place t ⊗ w ‼ (s + t))
unfolding sum_from
four-of x xs w place a b c d s e f g h = let z : s + 0 ≡ s = omega arith in rw (e, f, g, h, z)

-- run t + i of four, counted from run t + 4 q
run-place : (stride t j q i : ℕ) → (t + 4 * q) * stride + j + i * stride ≡ (t + (4 * q + i)) * stride + j
run-place stride t j q i = let y = add-mul (t + 4 * q) i stride in let z : t + 4 * q + i ≡ t + (4 * q + i) = omega arith in rw (← z) (omega arith)

-- four more after k
four-after : (x : Float) (term next : ℕ → Float) (k : ℕ) {a b : Float} → b ≡ sum_from a 4 next → a ≡ sum_from x k term → ((i : ℕ) → next i ≡ term (k + i)) → b ≡ sum_from x (k + 4) term
four-after x term next k p e r = p ∙ rw e (from-same _ 4 _ _ (λ i h. r i)) ∙ from-group x term k 4

-- run s beginning at `start s`; and counted from run t, four after 4 q
pub four-more : (x : Float) (xs w : List Float) (start : ℕ → ℕ) (j k : ℕ) (place : ℕ → ℕ) (a b : Float) → b ≡ sum_from a 4 (λ i. xs ‼ place i ⊗ w ‼ (k + i))
    → a ≡ sum_from x k (λ s. xs ‼ (start s + j) ⊗ w ‼ s) → ((i : ℕ) → place i ≡ start (k + i) + j) → b ≡ sum_from x (k + 4) (λ s. xs ‼ (start s + j) ⊗ w ‼ s)
four-more x xs w start j k place a b p e r = four-after x _ _ k p e (λ i. rw (r i))

pub fours-more : (x : Float) (xs w : List Float) (stride t j q : ℕ) {a b : Float} → b ≡ sum_from a 4 (λ i. xs ‼ ((t + 4 * q) * stride + j + i * stride) ⊗ w ‼ (t + 4 * q + i))
    → a ≡ sum_from x (4 * q) (λ s. xs ‼ ((t + s) * stride + j) ⊗ w ‼ (t + s)) → b ≡ sum_from x (4 * (q + 1)) (λ s. xs ‼ ((t + s) * stride + j) ⊗ w ‼ (t + s))
fours-more x xs w stride t j q p e =
    let z : 4 * (q + 1) ≡ 4 * q + 4 = omega arith in
    rw z (four-after x (λ s. xs ‼ ((t + s) * stride + j) ⊗ w ‼ (t + s)) _ (4 * q) p e (λ i. let y : t + 4 * q + i ≡ t + (4 * q + i) = omega arith in rw (run-place stride t j q i, y)))

-- ---- the terms of a row of sums, group by group, run s beginning at `start s`

module _ (row xs : List Float) (start : ℕ → ℕ) (w : List Float) where
  -- term s of number j
  abbrev term : ℕ → ℕ → Float
  term j s = xs ‼ (start s + j) ⊗ w ‼ s

  -- what t terms make of the row
  unfoldable pub terms_to : ℕ → List Float
  terms_to t = table (λ j. sum_from (row ‼ j) t (term j)) (length row)

  pub length-terms : (t : ℕ) → length (terms_to t) ≡ length row
  unfolding terms_to
  length-terms t = length-table _ (length row)

  at-terms : (t j : ℕ) → j < length row → terms_to t ‼ j ≡ sum_from (row ‼ j) t (term j)
  unfolding terms_to
  at-terms t j h = get_d-table _ (length row) j nan h

  pub terms-none : row ≡ terms_to 0
  terms-none = ext_get_or nan row (terms_to 0) (sym (length-terms 0)) (λ j h. sym (at-terms 0 j h ∙ from-none (row ‼ j) (term j)))

  pub terms-group : (t k : ℕ) → table (λ j. sum_from (terms_to t ‼ j) k (λ s. xs ‼ (start (t + s) + j) ⊗ w ‼ (t + s))) (length (terms_to t)) ≡ terms_to (t + k)
  unfolding terms_to
  terms-group t k =
      ap (table (λ j. sum_from (terms_to t ‼ j) k (λ s. term j (t + s)))) (length-terms t)
      ∙ table_same _ _ (length row) (λ j h. ap (λ x. sum_from x k (λ s. term j (t + s))) (at-terms t j h) ∙ from-group (row ‼ j) (term j) t k)

  pub terms-one : (t a : ℕ) → a ≡ start t → start t + length row ≤ length xs
      → table (λ j. terms_to t ‼ j ⊕ part a (a + length (terms_to t)) xs ‼ j ⊗ w ‼ t) (length (terms_to t)) ≡ terms_to (t + 1)
  unfolding terms_to
  terms-one t a e z =
      let o = length-terms t in
      ap (table (λ j. terms_to t ‼ j ⊕ part a (a + length (terms_to t)) xs ‼ j ⊗ w ‼ t)) o
      ∙ table_same _ _ (length row)
      (λ j h. rw (at-terms t j h, get_d_part xs {a = a} {e = a + length (terms_to t)} (omega arith) (omega arith) j nan (omega arith), e) (sym (from_more (row ‼ j) (term j) t)))
