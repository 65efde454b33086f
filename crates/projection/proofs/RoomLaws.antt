-- A block of terms added row by row, and the room's two halves, a lower triangle in each. Assumes nothing.
use Prim.Native.Nat.{ℕ, ◌+◌, ◌*◌, ◌-◌, ◌≤◌, ◌<◌}
use native.Mathlib.Nat.{add-zero, not-suc-le-zero}
use native.Mathlib.Omega.{arith}
use mathlib.Core.Path.{◌≡◌, refl, ap, sym, ◌∙◌}
use mathlib.Core.Logic.{◌⊎◌, ⊎_elim}
use mathlib.Core.Bool.{cond}
use mathlib.Core.List.{List, ◌++◌}
use lib.Dec.{eqb}
use lib.ListN.{length, take, drop, replicate, length-replicate, length-append}
use lib.Seq.{take_at, drop-drop, length-take-le}
use lib.Ieee.{Float, nan}
use borrow.Author.Tests.{eq-eqb, ne_eqb}
use Rattle.floats.specs.Words.{◌⊗◌, ◌‼◌, plus_zero}
use Rattle.floats.specs.Sums.{sum_of}
use Rattle.floats.specs.Tables.{table, triangle, half, with_part}
use Rattle.floats.specs.Matrix.{entry, half_entry, half_of}
use Rattle.floats.specs.Limits.{matrix_room}
use Rattle.floats.proofs.Commutes.{product-swap}
use Rattle.floats.proofs.TableLaws.{length-table, get_d-table}
use Rattle.floats.proofs.HalfLaws.{half-low, length-half, half-of, half-same, part-half, rows_to, length-rows, rows_none, rows_all, triangle-twice, half-symmetric}
use Rattle.rows.specs.Terms.{sum_from}
use Rattle.rows.proofs.TermLaws.{from-same}
use Rattle.projection.specs.Loaded.{Loaded}
use Rattle.projection.specs.Projection.{residual, product, residual_maker, mam_of}
use Rattle.projection.proofs.TriangleLaws.{row_new}
use Rattle.projection.proofs.ProductLaws.{term, mam-of}

-- a new front, and what stands behind it
module _ (p l : List Float) {h : ℕ} (e : length p ≡ h) where
  front_of_lem : take h (p ++ drop h l) ≡ p
  front_of_lem = take_at p (drop h l) h e

-- the half of length h is lent
pub half-lent : (h : ℕ) (l : List Float) → h + h ≤ length l → h ≡ length (take h l)
half-lent h l b = sym (length-take-le h l (omega arith))

-- the first k numbers of a local array of m are lent
pub array-lent : (m k : ℕ) → k ≤ m → length (take k (replicate m plus_zero)) ≡ k
array-lent m k b = length-take-le k (replicate m plus_zero) (omega (arith, length-replicate m plus_zero))

-- and come back filled
module _ (m k : ℕ) (f : ℕ → Float) (us : List Float) (b : k ≤ m) (e : us ≡ table f (length (take k (replicate m plus_zero)))) where
  is-table : us ≡ table f k
  is-table = e ∙ ap (table f) (array-lent m k b)

  size : length us ≡ k
  size = ap length is-table ∙ length-table f k

  pub array-filled : take k (us ++ drop k (replicate m plus_zero)) ≡ table f k
  array-filled = front_of_lem us (replicate m plus_zero) size ∙ is-table

  pub array-holds : k ≤ length (us ++ drop k (replicate m plus_zero))
  array-holds = omega (arith, length-append us (drop k (replicate m plus_zero)), size)

-- ---- a block of k terms, from term t on

-- row i of a half, each number made of the one that stood there
module _ (n i : ℕ) (f : ℕ → Float → Float) where
  abbrev turned : (ℕ → ℕ → Float) → ℕ → ℕ → Float
  turned old r c = cond (eqb r i) (f c (old r c)) (old r c)

  row-stored : (a : List Float) → length a ≡ triangle n → i < n → with_part (triangle i) (triangle i + (i + 1)) a (table (λ c. f c (a ‼ (triangle i + c))) (i + 1)) ≡ half (turned (half_entry a)) n
  row-stored a e h =
      ap (λ b. with_part (triangle i) (triangle i + (i + 1)) b new) (half-of (half_entry a) n a e (λ r c k l. refl))
      ∙ rw add-zero at (part-half n (half_entry a) (turned (half_entry a)) i {lo = 0} {hi = i + 1} h (omega arith) (omega arith) new (length-table _ _ ∙ omega arith) inside outside
      (λ r c k l d. rw (ne_eqb r i d)))
    where
      new : List Float
      new = table (λ c. f c (a ‼ (triangle i + c))) (i + 1)

      inside : (c : ℕ) → 0 ≤ c → c < i + 1 → new ‼ (c - 0) ≡ turned (half_entry a) i c
      inside c k l =
          let z : c - 0 ≡ c = omega arith in
          rw (z, eq-eqb i i refl) (get_d-table (λ c. f c (a ‼ (triangle i + c))) (i + 1) c nan l ∙ ap (f c) (sym (half-low a i c (omega arith))))

      outside : (c : ℕ) → c ≤ i → (c < 0) ⊎ (i + 1 ≤ c) → half_entry a i c ≡ turned (half_entry a) i c
      outside c k o = ⊎_elim (λ b. absurd (not-suc-le-zero b)) (λ (b : i + 1 ≤ c). absurd (omega arith)) o

  -- when the first i rows are new, that makes row i new
  row-turned : (new old : ℕ → ℕ → Float) → i < n → ((c : ℕ) → c ≤ i → f c (old i c) ≡ new i c) → half (turned (half_entry (rows_to n new old i))) n ≡ rows_to n new old (i + 1)
  row-turned new old h same = sym (row-stored (rows_to n new old i) (length-rows n new old i) h) ∙ row_new n new old i f h same

module _ (n t k : ℕ) (a m : List Float) where
  -- what the block makes of entry (i, j)
  abbrev blocked : ℕ → ℕ → Float
  blocked i j = sum_from (half_entry a i j) k (λ s. term n m i j (t + s))

  -- row i of M, from column t on, is what each row of A M is taken times
  pub block-turn : (stride i : ℕ) (w us : List Float) → length a ≡ triangle n → i < n → us ≡ table (λ s. half_entry m i (t + s)) k
      → with_part (triangle i) (triangle i + (i + 1)) a (table (λ c. sum_from (a ‼ (triangle i + c)) (length us) (λ s. w ‼ (s * stride + c) ⊗ us ‼ s)) (i + 1))
      ≡ half (λ r c. cond (eqb r i) (sum_from (half_entry a r c) k (λ s. w ‼ (s * stride + c) ⊗ half_entry m i (t + s))) (half_entry a r c)) n
  block-turn stride i w us b h e =
      row-stored n i (λ c y. sum_from y (length us) (λ s. w ‼ (s * stride + c) ⊗ us ‼ s)) a b h
      ∙ half-same n _ _
      (λ r c p q. ap (λ y. cond (eqb r i) y (half_entry a r c))
      (ap (λ z. sum_from (half_entry a r c) z (λ s. w ‼ (s * stride + c) ⊗ us ‼ s)) (ap length e ∙ length-table _ k)
      ∙ from-same (half_entry a r c) k _ _ (λ s o. ap (λ y. w ‼ (s * stride + c) ⊗ y) (rw e (get_d-table (λ s. half_entry m i (t + s)) k s nan o)))))

  -- M A M when i rows have got the block
  unfoldable pub block_to : ℕ → List Float
  block_to i = rows_to n blocked (half_entry a) i

  pub block_none : length a ≡ triangle n → a ≡ block_to 0
  unfolding block_to
  block_none b = half-of (half_entry a) n a b (λ i j h d. refl) ∙ rows_none n blocked (half_entry a)

  pub block_row : (stride i : ℕ) (r w : List Float) → i < n → r ≡ block_to i → Loaded stride n t m k w
      → half (λ p c. cond (eqb p i) (sum_from (half_entry r p c) k (λ s. w ‼ (s * stride + c) ⊗ half_entry m i (t + s))) (half_entry r p c)) n ≡ block_to (i + 1)
  unfolding block_to
  block_row stride i r w h e d =
      rw e
      (row-turned n i (λ c y. sum_from y k (λ s. w ‼ (s * stride + c) ⊗ half_entry m i (t + s))) blocked (half_entry a) h
      (λ j b. from-same (half_entry a i j) k _ _ (λ s o. product-swap (w ‼ (s * stride + j)) (half_entry m i (t + s)) ∙ ap (λ z. half_entry m i (t + s) ⊗ z) (d s j o (omega arith)))))

  pub block-all : block_to n ≡ half blocked n
  unfolding block_to
  block-all = rows_all n blocked (half_entry a)

-- ---- the room in the end

module _ (x : List Float) (inv : List (List Float)) (n k : ℕ) (l : List Float) where
  pub room_of_lem : (h : ℕ) (m q back : List Float) → h ≡ triangle n → back ≡ drop h l → m ≡ half (residual x inv n k) n → q ≡ half (λ i j. sum_of n (term n m i j)) n
      → q ++ (m ++ drop h back) ≡ half (product x inv n k) n ++ (half (residual x inv n k) n ++ drop (triangle n + triangle n) l)
  room_of_lem h m q back z b e f = rw (f, e, b, z, drop-drop (triangle n) (triangle n) l, mam-of x inv n k)

-- the lower triangles are those of the whole matrices; and M A M, read off the room
module _ (x : List Float) (inv : List (List Float)) (n k : ℕ) (q l : List Float) (e : q ≡ half (product x inv n k) n ++ (half (residual x inv n k) n ++ drop (triangle n + triangle n) l)) where
  pub room-wholes : q ≡ half_of n (mam_of x inv n k) ++ (half_of n (residual_maker x inv n k) ++ drop (matrix_room n) l)
  room-wholes = rw (half-symmetric n (product x inv n k), half-symmetric n (residual x inv n k), ← triangle-twice n) e

  pub first_of : take (triangle n) q ≡ half_of n (mam_of x inv n k)
  first_of = ap (take (triangle n)) room-wholes ∙ take_at (half_of n (mam_of x inv n k)) _ (triangle n) (length-half (entry n (mam_of x inv n k)) n)
