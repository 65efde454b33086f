-- S v over the lower triangle, group by group of rows. The one idea: each row of a group is a column for the numbers before the group, so a group brings those numbers their next terms;
-- its own numbers are sums along their rows up to the corner where the group's rows meet their own columns, and then over the corner. Assumes nothing.
use Prim.Native.Nat.{ℕ, zero, suc, ◌+◌, ◌-◌, ◌≤◌, ◌<◌, min, max}
use native.Mathlib.Nat.{max-eq_left, max-eq_right, min-eq_left, min-eq_right}
use native.Mathlib.Omega.{arith}
use mathlib.Core.Path.{◌≡◌, refl, ap, sym, ◌∙◌}
use mathlib.Core.Logic.{⊎_elim}
use mathlib.Core.List.{List, ◌++◌}
use lib.ListN.{length, take, drop, get_or-append}
use lib.Seq.{take_at, drop_at, get_or-take, length-take-le}
use lib.Ieee.{Float, nan}
use Rattle.floats.specs.Words.{◌⊗◌, ◌‼◌}
use Rattle.floats.specs.Sums.{sum_of}
use Rattle.floats.specs.Tables.{table, triangle, part, with_part}
use Rattle.floats.specs.Matrix.{half_entry, whole}
use Rattle.floats.proofs.ListLaws.{sum_same, length_part, get_d_part}
use Rattle.floats.proofs.RowLaws.{filled}
use Rattle.floats.proofs.TableLaws.{length-table, get_d-table, table_same}
use Rattle.floats.proofs.MatrixLaws.{lt-or-le}
use Rattle.floats.proofs.HalfLaws.{triangle-suc, triangle-apart, half-low, half-swap, entry_whole}
use Rattle.rows.specs.Terms.{sum_from}
use Rattle.rows.proofs.TermLaws.{from-same, sum-group}
use Rattle.halves.specs.RowStarts.{row_start, ReachRows, ReachCorner}
use Rattle.halves.proofs.StoreLaws.{filled-group}
use Rattle.tridiagonal.specs.Reflection.{below, column_of, image_of}

-- ---- column c

-- row c of the whole matrix, from its diagonal on
pub column-of : (n c : ℕ) (a v : List Float) {m : ℕ} → c + 1 < n → m ≡ below n c → v ≡ table (λ s. half_entry a c (c + 1 + s)) m → v ≡ column_of n c (whole n a)
unfolding column_of
column-of n c a v h l e = rw (e, l) (table_same _ _ (below n c) (λ t k. half-swap a c (c + 1 + t) ∙ sym (entry_whole n a (c + 1 + t) c (omega arith) (omega arith))))

-- ---- rows of a half, one below the other

-- where row i + s begins
rows_on : (i stride s : ℕ) → stride ≡ i + 1 → triangle (i + s) ≡ triangle i + row_start stride s
unfolding row_start
rows_on i stride zero e = let z : i + 0 ≡ i = omega arith in rw z (omega arith)
rows_on i stride (suc s) e =
    let z : i + suc s ≡ suc (i + s) = omega arith in
    let d = rows_on i stride s e in
    rw (z, triangle-suc (i + s)) (omega arith)

-- row i + s, in what stands from column d of row i on
module _ (n i stride d start : ℕ) (a : List Float) (e : length a ≡ triangle n) (f : stride ≡ i + 1) (z : start ≡ triangle i + d) (o : i < n) (k : d ≤ i) where
  start-in : start ≤ length a
  start-in = omega (arith, triangle-apart o)

  place-on : (s j : ℕ) → start + (row_start stride s + j) ≡ triangle (i + s) + (d + j)
  place-on s j = omega (arith, rows_on i stride s f)

  rows_in : (s j : ℕ) → i + s < n → d + j ≤ i + s + 1 → row_start stride s + j ≤ length (part start (length a) a)
  rows_in s j h l = rw (length_part a {a = start} {e = length a} start-in (omega arith)) (omega (arith, place-on s j, triangle-apart h))

  rows-entry : (s j : ℕ) → i + s < n → d + j ≤ i + s → part start (length a) a ‼ (row_start stride s + j) ≡ half_entry a (i + s) (d + j)
  rows-entry s j h l =
      get_d_part a {a = start} {e = length a} start-in (omega arith) (row_start stride s + j) nan (omega (arith, place-on s j, triangle-apart h))
      ∙ ap (λ (t : ℕ). a ‼ t) (place-on s j) ∙ sym (half-low a (i + s) (d + j) l)

-- rows c + 1 + r on, and r columns further their corner, begin within the run
pub group-in : (n c r : ℕ) {next start k : ℕ} → k ≡ triangle n → r < next → next ≤ below n c → start ≡ triangle (c + 1 + r) + (c + 1) → start + r ≤ k
group-in n c r e l m z = omega (arith, triangle-apart {i = c + 1 + r} {r = n} (omega arith))

-- ---- a part of a run, stored twice

module _ (r next : ℕ) (p x : List Float) (h : r ≤ length p) (l : length x ≡ next - r) where
  part-stored : part r next (with_part r next p x) ≡ x
  part-stored = rw (drop_at (take r p) (x ++ drop (next - r) (drop r p)) r (length-take-le r p h), take_at x (drop (next - r) (drop r p)) (next - r) l)

  stored-again : (y : List Float) → with_part r next (with_part r next p x) y ≡ with_part r next p y
  stored-again y =
      let o = length-take-le r p h in
      rw (take_at (take r p) (x ++ drop (next - r) (drop r p)) r o, drop_at (take r p) (x ++ drop (next - r) (drop r p)) r o, drop_at x (drop (next - r) (drop r p)) (next - r) l)

-- ---- S v, group by group

module _ (n c : ℕ) (a v : List Float) where
  -- term j of number i
  abbrev term : ℕ → ℕ → Float
  term i j = half_entry a (c + 1 + i) (c + 1 + j) ⊗ v ‼ j

  -- the first r terms, and then the terms up to next
  terms-on : (r next i : ℕ) → r < next → sum_from (sum_of r (term i)) (next - r) (λ s. term i (r + s)) ≡ sum_of next (term i)
  terms-on r next i l = let z : r + (next - r) ≡ next = omega arith in sum-group r (next - r) (term i) ∙ ap (λ (k : ℕ). sum_of k (term i)) z

  -- the rows of a group, in what stands from column c + 1 of the first of them on
  module _ (r next start : ℕ) (e : length a ≡ triangle n) (l : r < next) (m : next ≤ below n c) (z : start ≡ triangle (c + 1 + r) + (c + 1)) where
    group-reach : ReachRows (next - r) (c + 2 + r) r (length (part start (length a) a))
    group-reach s b = rows_in n (c + 1 + r) (c + 2 + r) (c + 1) start a e (omega arith) z (omega arith) (omega arith) s r (omega arith) (omega arith)

    group-entry : (s j : ℕ) → s < next - r → j < r → part start (length a) a ‼ (row_start (c + 2 + r) s + j) ≡ half_entry a (c + 1 + (r + s)) (c + 1 + j)
    group-entry s j b d =
        let w : c + 1 + r + s ≡ c + 1 + (r + s) = omega arith in
        rw w at (rows-entry n (c + 1 + r) (c + 2 + r) (c + 1) start a e (omega arith) z (omega arith) (omega arith) s j (omega arith) (omega arith))

    -- the corner's, at and below the diagonal, and then above it too
    low-entry : (s t : ℕ) → s < next - r → t ≤ s → part (start + r) (length a) a ‼ (row_start (c + 2 + r) s + t) ≡ half_entry a (c + 1 + (r + s)) (c + 1 + (r + t))
    low-entry s t b d =
        let w : c + 1 + r + s ≡ c + 1 + (r + s) = omega arith in
        let y : c + 1 + r + t ≡ c + 1 + (r + t) = omega arith in
        rw (w, y) at (rows-entry n (c + 1 + r) (c + 2 + r) (c + 1 + r) (start + r) a e (omega arith) (omega arith) (omega arith) (omega arith) s t (omega arith) (omega arith))

    corner-entry : (s t : ℕ) → s < next - r → t < next - r
        → part (start + r) (length a) a ‼ (row_start (c + 2 + r) (max s t) + min s t) ≡ half_entry a (c + 1 + (r + s)) (c + 1 + (r + t))
    corner-entry s t b d =
        ⊎_elim
        (λ (h : s < t). let k : s ≤ t = omega arith in rw (max-eq_right k, min-eq_left k) (low-entry t s d k ∙ half-swap a (c + 1 + (r + t)) (c + 1 + (r + s))))
        (λ (h : t ≤ s). rw (max-eq_left h, min-eq_right h) (low-entry s t b h))
        (lt-or-le s t)

    module _ (p : List Float) (u : length p ≡ below n c) (o : length v ≡ below n c) where
      pub terms-reach : ReachRows (length (part r next v)) (c + 2 + r) (length (take r p)) (length (part start (length a) a))
      terms-reach = rw (length-take-le r p (omega arith), length_part v {a = r} {e = next} (omega arith) (omega arith)) group-reach

      pub group-terms :
          table (λ j. sum_from (take r p ‼ j) (length (part r next v)) (λ s. part start (length a) a ‼ (row_start (c + 2 + r) s + j) ⊗ part r next v ‼ s)) (length (take r p))
          ≡ table (λ i. sum_from (p ‼ i) (next - r) (λ s. half_entry a (c + 1 + (r + s)) (c + 1 + i) ⊗ v ‼ (r + s))) r
      group-terms =
          rw (length-take-le r p (omega arith), length_part v {a = r} {e = next} (omega arith) (omega arith))
          (table_same _ _ r
          (λ i b. ap (λ x. sum_from x (next - r) (λ s. part start (length a) a ‼ (row_start (c + 2 + r) s + i) ⊗ part r next v ‼ s)) (get_or-take r p i nan b)
          ∙ from-same (p ‼ i) (next - r) _ _
          (λ s d. rw (group-entry s i d b, get_d_part v {a = r} {e = next} (omega arith) (omega arith) s nan d))))

      pub sums-reach : ReachRows (length (part r next p)) (c + 2 + r) (length (take r v)) (length (part start (length a) a))
      sums-reach = rw (length-take-le r v (omega arith), length_part p {a = r} {e = next} (omega arith) (omega arith)) group-reach

      -- x: the sums up to the corner, in the place of the group's numbers
      module _ (x : List Float) (q : x ≡ table (λ s. sum_of (length (take r v)) (λ j. part start (length a) a ‼ (row_start (c + 2 + r) s + j) ⊗ take r v ‼ j)) (length (part r next p))) where
        width : length x ≡ next - r
        width = rw (q, length-table) (length_part p {a = r} {e = next} (omega arith) (omega arith))

        pub corner-reach : ReachCorner (length (part r next (with_part r next p x))) (c + 2 + r) (length (part (start + r) (length a) a))
        corner-reach =
            rw (part-stored r next p x (omega arith) width, width)
            (λ s b. rows_in n (c + 1 + r) (c + 2 + r) (c + 1 + r) (start + r) a e (omega arith) (omega arith) (omega arith) (omega arith) s (s + 1) (omega arith) (omega arith))

        pub group-sums :
            with_part r next (with_part r next p x)
            (table (λ s. sum_from (part r next (with_part r next p x) ‼ s) (length (part r next (with_part r next p x)))
            (λ t. part (start + r) (length a) a ‼ (row_start (c + 2 + r) (max s t) + min s t) ⊗ part r next v ‼ t)) (length (part r next (with_part r next p x))))
            ≡ with_part r next p (table (λ s. sum_of next (λ j. half_entry a (c + 1 + (r + s)) (c + 1 + j) ⊗ v ‼ j)) (next - r))
        group-sums = rw (part-stored r next p x (omega arith) width, width, added) (stored-again r next p x (omega arith) width (table (λ s. sum_of next (term (r + s))) (next - r)))
          where
            before : (s : ℕ) → s < next - r → x ‼ s ≡ sum_of r (term (r + s))
            before s b =
                rw (q, length-take-le r v (omega arith), length_part p {a = r} {e = next} (omega arith) (omega arith))
                (get_d-table _ (next - r) s nan b ∙ sum_same r _ (term (r + s)) (λ j d. rw (group-entry s j b d, get_or-take r v j nan d)))

            added : table (λ s. sum_from (x ‼ s) (next - r) (λ t. part (start + r) (length a) a ‼ (row_start (c + 2 + r) (max s t) + min s t) ⊗ part r next v ‼ t)) (next - r)
                ≡ table (λ s. sum_of next (term (r + s))) (next - r)
            added =
                table_same _ _ (next - r)
                (λ s b. ap (λ y. sum_from y (next - r) (λ t. part (start + r) (length a) a ‼ (row_start (c + 2 + r) (max s t) + min s t) ⊗ part r next v ‼ t)) (before s b)
                ∙ from-same (sum_of r (term (r + s))) (next - r) _ (λ t. term (r + s) (r + t))
                (λ t d. rw (corner-entry s t b d, get_d_part v {a = r} {e = next} (omega arith) (omega arith) t nan d))
                ∙ terms-on r next (r + s) l)

  -- number i, of its first r terms
  unfoldable pub image_to : ℕ → ℕ → Float
  image_to r i = sum_of r (term i)

  -- what a group makes of the run
  pub image-more : (r next : ℕ) → r < next → (p b o : List Float) → p ≡ filled (image_to r) r o
      → b ≡ table (λ i. sum_from (p ‼ i) (next - r) (λ s. half_entry a (c + 1 + (r + s)) (c + 1 + i) ⊗ v ‼ (r + s))) r ++ drop r p
      → with_part r next b (table (λ s. sum_of next (λ j. half_entry a (c + 1 + (r + s)) (c + 1 + j) ⊗ v ‼ j)) (next - r)) ≡ filled (image_to next) next o
  unfolding image_to
  image-more r next l p b o e f = rw (f, before) (filled-group (image_to next) o _ r next (next - r) (omega arith) refl)
    where
      here : (i : ℕ) → i < r → p ‼ i ≡ sum_of r (term i)
      here i h = rw e (get_or-append (table (image_to r) r) (drop r o) nan i (rw (length-table (image_to r) r) h) ∙ get_d-table (image_to r) r i nan h)

      -- a number before the group: the rows are columns there
      number : (i : ℕ) → i < r → sum_from (p ‼ i) (next - r) (λ s. half_entry a (c + 1 + (r + s)) (c + 1 + i) ⊗ v ‼ (r + s)) ≡ sum_of next (term i)
      number i h =
          ap (λ x. sum_from x (next - r) (λ s. half_entry a (c + 1 + (r + s)) (c + 1 + i) ⊗ v ‼ (r + s))) (here i h)
          ∙ from-same (sum_of r (term i)) (next - r) _ (λ s. term i (r + s)) (λ s k. ap (λ x. x ⊗ v ‼ (r + s)) (half-swap a (c + 1 + (r + s)) (c + 1 + i)))
          ∙ terms-on r next i l

      rest : drop r p ≡ drop r o
      rest = rw e (drop_at (table (image_to r) r) (drop r o) r (length-table (image_to r) r))

      before : table (λ i. sum_from (p ‼ i) (next - r) (λ s. half_entry a (c + 1 + (r + s)) (c + 1 + i) ⊗ v ‼ (r + s))) r ++ drop r p ≡ filled (image_to next) r o
      before = rw (rest, table_same _ (image_to next) r number)

  pub image-all : (p : List Float) (r : ℕ) → r ≡ below n c → length p ≡ below n c → table (image_to r) (length p) ≡ image_of n c (whole n a) v
  unfolding image_to image_of
  image-all p r e l =
      rw (e, l)
      (table_same _ _ (below n c)
      (λ i h. sum_same (below n c) _ _ (λ j k. ap (λ x. x ⊗ v ‼ j) (sym (entry_whole n a (c + 1 + i) (c + 1 + j) (omega arith) (omega arith))))))
