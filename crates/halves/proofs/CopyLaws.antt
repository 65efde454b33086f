-- A stretch of a row of a symmetric matrix, read from its lower triangle. The one idea: up to the diagonal it stands in a row of the triangle, and it goes on down a column, where
-- each number stands one row on from the number before. Assumes nothing.
use Prim.Native.Nat.{ℕ, ◌+◌, ◌-◌, ◌≤◌, ◌<◌, min}
use native.Mathlib.Omega.{arith}
use mathlib.Core.Path.{◌≡◌, ap, ◌∙◌}
use mathlib.Core.Logic.{⊎_elim}
use mathlib.Core.List.{List, ◌++◌}
use lib.ListN.{length, set, take, drop, length-take, length-drop, length-append}
use lib.Ieee.{Float, nan}
use Rattle.floats.specs.Words.{◌‼◌}
use Rattle.floats.specs.Tables.{table, triangle, part, with_part}
use Rattle.floats.specs.Matrix.{half_entry}
use Rattle.floats.proofs.ListLaws.{get_d_part}
use Rattle.floats.proofs.TableLaws.{length-table, table_same}
use Rattle.floats.proofs.RowLaws.{filled, filled_more, length-filled, filled-all}
use Rattle.floats.proofs.MatrixLaws.{lt-or-le}
use Rattle.floats.proofs.HalfLaws.{triangle-more, triangle-apart, triangle-up, half-low, half_high}
use Rattle.halves.proofs.StoreLaws.{filled-group}

-- ---- down column i, from row `from` on, k numbers of it

module _ {i from s k at : ℕ} (p : at ≡ triangle (from + s) + i) (h : s < k) (b : 0 < k → i < from) where
  pub column-in : {l : ℕ} → triangle (from + k) ≤ l → at < l
  column-in m = let d = b (omega arith) in omega (arith, triangle-apart {i = from + s} {r = from + k} (omega arith))

  pub column-more : (a row : List Float) → length row ≡ k
      → set (filled (λ s. half_entry a i (from + s)) s row) s (a ‼ at) ≡ filled (λ s. half_entry a i (from + s)) (s + 1) row
  column-more a row e =
      let d = b (omega arith) in
      ap (set (filled (λ s. half_entry a i (from + s)) s row) s) (rw (p, half_high a i (from + s) (omega arith)))
      ∙ filled_more (λ s. half_entry a i (from + s)) row s nan (omega arith)

pub column-next : (i from s : ℕ) → triangle (from + s) + i + (from + s + 1) ≡ triangle (from + (s + 1)) + i
column-next i from s = let z : from + (s + 1) ≡ from + s + 1 = omega arith in rw z (omega (arith, triangle-more (from + s)))

-- ---- a stretch of row i, k numbers from column `from` on: `own` numbers up to the diagonal, and the rest from column i

-- where row i has none of them its place can lie beyond the row, but not beyond the triangle
pub own_in : (i from k : ℕ) {own start l : ℕ} → own ≡ min k (i + 1 - from) → start ≡ triangle i + from → triangle (i + 1) ≤ l → triangle (from + k) ≤ l → start + own ≤ l
own_in i from k p q m n =
    ⊎_elim
    (λ (b : i < from). omega (arith, triangle-up {i = i} {r = from - 1} (omega arith), triangle-apart {i = from - 1} {r = from} (omega arith), triangle-up {i = from} {r = from + k} (omega arith)))
    (λ (b : from ≤ i). omega (arith, triangle-more i))
    (lt-or-le i from)

module _ (i from : ℕ) (a row : List Float) {own start : ℕ} (p : own ≡ min (length row) (i + 1 - from)) (q : start ≡ triangle i + from) (m : triangle (i + 1) ≤ length a)
    (n : triangle (from + length row) ≤ length a) {ys : List Float} (y : ys ≡ table (λ s. part start (start + own) a ‼ s) (length (take own row))) where
  -- the row, once its own numbers, ys, are copied
  abbrev begun : List Float
  begun = ys ++ drop own row

  wide : length (take own row) ≡ own
  wide = simp length-take (omega arith)

  pub rest_end : from + own + length (part own (length begun) begun) ≡ from + length row
  rest_end = let e : length ys ≡ own = rw y (length-table _ _ ∙ wide) in simp (length-take, length-drop, length-append) (omega arith)

  begun-right : begun ≡ filled (λ s. half_entry a i (from + s)) own row
  begun-right = ap (λ l. l ++ drop own row) (y ∙ ap (table (λ s. part start (start + own) a ‼ s)) wide ∙ table_same _ _ own here)
    where
      here : (s : ℕ) → s < own → part start (start + own) a ‼ s ≡ half_entry a i (from + s)
      here s h =
          let z : start + s ≡ triangle i + (from + s) = omega arith in
          get_d_part a {a = start} {e = start + own} (omega arith) (own_in i from (length row) p q m n) s nan (omega arith) ∙ rw (z, half-low a i (from + s) (omega arith))

  -- and once the rest, zs, are copied too
  pub stretch-copied : {zs : List Float} → zs ≡ table (λ s. half_entry a i (from + own + s)) (length (part own (length begun) begun))
      → with_part own (length begun) begun zs ≡ table (λ s. half_entry a i (from + s)) (length row)
  stretch-copied {zs} z =
      let o = length-filled f row own (omega arith) in
      rw begun-right (filled-group f row zs own (length (filled f own row)) (length row - own) (omega arith) rest ∙ filled-all f row (length (filled f own row)) (omega arith) (omega arith))
    where
      f : ℕ → Float
      f s = half_entry a i (from + s)

      rest : zs ≡ table (λ s. f (own + s)) (length row - own)
      rest =
          let e : length (part own (length begun) begun) ≡ length row - own = omega (arith, rest_end) in
          z ∙ ap (table (λ s. half_entry a i (from + own + s))) e ∙ table_same _ _ (length row - own) (λ s h. let d : from + own + s ≡ from + (own + s) = omega arith in rw d)
