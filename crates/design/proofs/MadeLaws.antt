-- Rows and matrices of which only the first k places are filled, one after another. Assumes nothing.
use mathlib.Core.Path.{◌≡◌, sym, ◌∙◌}
use mathlib.Core.Bool.{cond}
use mathlib.Core.List.{List}
use Prim.Native.Nat.{ℕ, ◌+◌, ◌-◌, ◌≤◌, ◌<◌}
use native.Mathlib.Omega.{arith}
use native.Mathlib.Decide.{dec_lt}
use lib.Dec.{ltb}
use lib.ListN.{length, get_or, drop, replicate, length-replicate, get_or-replicate, get_or-append}
use lib.Seq.{ext_get_or, get_or-append-add, get_or-drop}
use borrow.Author.Tests.{lt-ltb, le-ltb}
use Rattle.floats.specs.Limits.{max_columns}
use Rattle.floats.specs.Tables.{table}
use Rattle.floats.proofs.TableLaws.{length-table, get_d-table}
use Rattle.floats.proofs.RowLaws.{filled, length-filled}

-- a list with these first k elements, and z beyond
pub front-made : {A : Type 0} (n k : ℕ) (f : ℕ → A) (z d : A) (ys : List A) → length ys ≡ n → ((j : ℕ) → j < n → (j < k → get_or ys j d ≡ f j) × (k ≤ j → get_or ys j d ≡ z)) → ys ≡ table (λ j. cond (ltb j k) (f j) z) n
front-made {A} n k f z d ys e h =
    ext_get_or d ys (table (λ j. cond (ltb j k) (f j) z) n) (e ∙ sym (length-table (λ j. cond (ltb j k) (f j) z) n))
    (λ j b. let m : j < n = rw e at b in by j m (h j m) (dec_lt j k) ∙ sym (get_d-table (λ j. cond (ltb j k) (f j) z) n j d m))
  where
    by : (j : ℕ) → j < n → (j < k → get_or ys j d ≡ f j) × (k ≤ j → get_or ys j d ≡ z) → Dec (j < k) → get_or ys j d ≡ cond (ltb j k) (f j) z
    by j m w (yes l) = rw (lt-ltb j k l) (w.0 l)
    by j m w (no l) = rw (le-ltb j k (omega arith)) (w.1 (omega arith))

module _ {A : Type 0} (f : ℕ → A) (z : A) (k : ℕ) (h : k ≤ max_columns) where
  first : (j : ℕ) → j < k → get_or (filled f k (replicate max_columns z)) j z ≡ f j
  first j l = get_or-append (table f k) (drop k (replicate max_columns z)) z j (rw (length-table f k) l) ∙ get_d-table f k j z l

  beyond : (j : ℕ) → j < max_columns → k ≤ j → get_or (filled f k (replicate max_columns z)) j z ≡ z
  beyond j b l =
      let e : length (table f k) + (j - k) ≡ j = omega (arith, length-table f k) in
      rw e at (get_or-append-add (table f k) (drop k (replicate max_columns z)) (j - k) z)
      ∙ get_or-drop k (replicate max_columns z) (j - k) z
      ∙ get_or-replicate max_columns (k + (j - k)) z z (omega arith)

  -- of as many as a row has, the first k stored over z
  pub front-filled : filled f k (replicate max_columns z) ≡ table (λ j. cond (ltb j k) (f j) z) max_columns
  front-filled =
      front-made max_columns k f z z (filled f k (replicate max_columns z))
      (length-filled f (replicate max_columns z) k (rw (length-replicate max_columns z) h) ∙ length-replicate max_columns z)
      (λ j b. (first j, beyond j b))
