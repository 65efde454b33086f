-- Symmetric matrices of which a run holds the lower triangle, entry by entry. The one idea: a run of n (n + 1) / 2 numbers is the triangle whose entries it has (`half-of`), so
-- each store, of a number or of a part of a row, is read off its entries, and a loop over rows leaves a triangle whose first i rows are new. Assumes nothing.
use Prim.Native.Nat.{ℕ, zero, suc, ◌+◌, ◌*◌, ◌-◌, ◌/◌, ◌%◌, ◌≤◌, ◌<◌, min, max}
use native.Mathlib.Nat.{mod-lt, div-lt_iff_lt-mul, not-suc-le-zero, max-eq_left, max-eq_right, min-eq_left, min-eq_right, max_comm, min_comm}
use native.Mathlib.Numerals.{add-one}
use native.Mathlib.Omega.{arith}
use native.Mathlib.Decide.{ℕ_discrete}
use mathlib.Core.Path.{◌≡◌, refl, ap, sym, ◌∙◌}
use mathlib.Core.Logic.{◌⊎◌, inl, inr, ⊎_elim}
use mathlib.Core.Bool.{Bool, false, not, cond, true≢false}
use mathlib.Core.List.{List, ◌++◌}
use lib.Dec.{ltb}
use lib.ListN.{length, set, length-set, length-append, get_or-append}
use lib.Seq.{get_or-set_same, get_or-set_other, ext_get_or, get_or-append-add}
use lib.Arith.{digits_lt}
use lib.Ieee.{Float, nan}
use lib.Ieee.Scale.{finite}
use borrow.Author.Tests.{lt-ltb, le-ltb}
use Rattle.std.specs.Prelude.{Option, Some, None}
use Rattle.floats.specs.Words.{◌‼◌}
use Rattle.floats.specs.Search.{first_bad}
use Rattle.floats.specs.Tables.{table, symmetric, triangle, half, part, with_part}
use Rattle.floats.specs.Matrix.{entry, Symmetric, half_entry, whole, half_of}
use Rattle.floats.proofs.FirstLaws.{none-at, found-holds}
use Rattle.floats.proofs.TableLaws.{length-table, get_d-table, table_same}
use Rattle.floats.proofs.ListLaws.{length-with_part, length_part, get_d_part}
use Rattle.floats.proofs.MatrixLaws.{lt-or-le, above, part-before, part-inside, part-after, length-square, entry-square, square-of, square-same, length-symmetric, entry-symmetric, larger-in, smaller-in}

-- ---- where a row begins

pub triangle-suc : (i : ℕ) → triangle (suc i) ≡ triangle i + suc i
unfolding triangle
triangle-suc i = omega arith

pub triangle-none : triangle 0 ≡ 0
unfolding triangle
triangle-none = refl

pub triangle-more : (i : ℕ) → triangle (i + 1) ≡ triangle i + (i + 1)
triangle-more i = rw add-one (triangle-suc i)

-- a row ends before a later one begins
apart : (r i : ℕ) → i < r → triangle i + (i + 1) ≤ triangle r
apart zero i h = absurd (not-suc-le-zero h)
apart (suc r) i h =
    let e = triangle-suc r in
    ⊎_elim (λ (b : i < r). let d = apart r i b in omega arith) (λ (b : r ≤ i). let z : i ≡ r = omega arith in rw (z, e) (omega arith)) (lt-or-le i r)

pub triangle-apart : {i r : ℕ} → i < r → triangle i + (i + 1) ≤ triangle r
triangle-apart {i} {r} h = apart r i h

pub triangle-up : {i r : ℕ} → i ≤ r → triangle i ≤ triangle r
triangle-up {i} {r} h = ⊎_elim (λ (b : i < r). let d = apart r i b in omega arith) (λ (b : r ≤ i). let z : i ≡ r = omega arith in rw z (omega arith)) (lt-or-le i r)

-- two triangles
pub triangle-twice : (n : ℕ) → triangle n + triangle n ≡ n * (n + 1)
triangle-twice zero = rw triangle-none (omega arith)
triangle-twice (suc n) = let e = triangle-suc n in let d = triangle-twice n in omega arith

-- ---- entries

module _ (h : List Float) where
  pub half-low : (i j : ℕ) → j ≤ i → half_entry h i j ≡ h ‼ (triangle i + j)
  unfolding half_entry
  half-low i j l = rw (max-eq_left l, min-eq_right l)

  pub half_high : (i j : ℕ) → i ≤ j → half_entry h i j ≡ h ‼ (triangle j + i)
  unfolding half_entry
  half_high i j l = rw (max-eq_right l, min-eq_left l)

  pub half-swap : (i j : ℕ) → half_entry h i j ≡ half_entry h j i
  unfolding half_entry
  half-swap i j = rw (max_comm i j, min_comm i j)

-- every place is that of an entry
pub record Placed (n p : ℕ) : Type 0 where
  pub row : ℕ
  pub column : ℕ
  pub row_in : row < n
  pub column-in : column ≤ row
  pub at : p ≡ triangle row + column

placed : (n p : ℕ) → p < triangle n → Placed n p
placed zero p h = absurd (not-suc-le-zero (rw triangle-none at h))
placed (suc n) p h =
    let e = triangle-suc n in
    ⊎_elim
    (λ (b : p < triangle n). let s = placed n p b in record { row = s.row; column = s.column; row_in = let c = s.row_in in omega arith; column-in = s.column-in; at = s.at })
    (λ (b : triangle n ≤ p). record { row = n; column = p - triangle n; row_in = omega arith; column-in = omega arith; at = omega arith })
    (lt-or-le p (triangle n))

module _ (f : ℕ → ℕ → Float) where
  pub length-half : (n : ℕ) → length (half f n) ≡ triangle n
  unfolding half
  length-half zero = sym triangle-none
  length-half (suc n) = length-append (half f n) (table (f n) (suc n)) ∙ let a = length-half n in let b = length-table (f n) (suc n) in let e = triangle-suc n in omega arith

  pub place-half : (n i j : ℕ) → i < n → j ≤ i → half f n ‼ (triangle i + j) ≡ f i j
  unfolding half
  place-half zero i j h l = absurd (not-suc-le-zero h)
  place-half (suc n) i j h l =
      let o = length-half n in
      ⊎_elim
      (λ (b : i < n). let d = triangle-apart b in get_or-append (half f n) (table (f n) (suc n)) nan (triangle i + j) (omega arith) ∙ place-half n i j b l)
      (λ (b : n ≤ i). let z : i ≡ n = omega arith in rw z (last n j (omega arith)))
      (lt-or-le i n)
    where
      last : (n j : ℕ) → j < suc n → (half f n ++ table (f n) (suc n)) ‼ (triangle n + j) ≡ f n j
      last n j h =
          ap (λ (p : ℕ). (half f n ++ table (f n) (suc n)) ‼ (p + j)) (sym (length-half n))
          ∙ get_or-append-add (half f n) (table (f n) (suc n)) j nan ∙ get_d-table (f n) (suc n) j nan h

  module _ (n : ℕ) where
    pub entry-half : (i j : ℕ) → i < n → j ≤ i → half_entry (half f n) i j ≡ f i j
    entry-half i j h l = half-low (half f n) i j l ∙ place-half n i j h l

    -- a run of n (n + 1) / 2 numbers with these entries is this triangle
    pub half-of : (a : List Float) → length a ≡ triangle n → ((i j : ℕ) → i < n → j ≤ i → half_entry a i j ≡ f i j) → a ≡ half f n
    half-of a e h =
        ext_get_or nan a (half f n) (e ∙ sym (length-half n))
        (λ p b. let s = placed n p (omega arith) in
        rw s.at (sym (half-low a s.row s.column s.column-in) ∙ h s.row s.column s.row_in s.column-in ∙ sym (place-half n s.row s.column s.row_in s.column-in)))

pub half-same : (n : ℕ) (f g : ℕ → ℕ → Float) → ((i j : ℕ) → i < n → j ≤ i → f i j ≡ g i j) → half f n ≡ half g n
half-same n f g h = half-of g n (half f n) (length-half f n) (λ i j k l. entry-half f n i j k l ∙ h i j k l)

-- ---- halves and wholes

module _ (n : ℕ) (h : List Float) where
  pub entry_whole : (i j : ℕ) → i < n → j < n → entry n (whole n h) i j ≡ half_entry h i j
  entry_whole i j k l = entry-square n (half_entry h) i j k l

  pub length_whole : length (whole n h) ≡ n * n
  length_whole = length-square n (half_entry h)

  pub whole-symmetric : Symmetric n (whole n h)
  whole-symmetric i j k l = entry_whole i j k l ∙ half-swap h i j ∙ sym (entry_whole j i l k)

  -- a half of a whole is the half
  pub half-whole : length h ≡ triangle n → half_of n (whole n h) ≡ h
  half-whole e = sym (half-of (entry n (whole n h)) n h e (λ i j k l. sym (entry_whole i j k (omega arith))))

-- the whole of a symmetric matrix's half is the matrix
pub whole-half : (n : ℕ) (a : List Float) → length a ≡ n * n → Symmetric n a → whole n (half_of n a) ≡ a
whole-half n a e s =
    sym (square-of n (half_entry (half_of n a)) a e
    (λ i j h k. ⊎_elim
    (λ (b : i < j). s i j h k ∙ sym (half-swap (half_of n a) i j ∙ entry-half (entry n a) n j i k (omega arith)))
    (λ (b : j ≤ i). sym (entry-half (entry n a) n i j h b))
    (lt-or-le i j)))

module _ (n : ℕ) (f : ℕ → ℕ → Float) where
  -- what is given for j ≤ i, whole and half
  pub whole_of : whole n (half f n) ≡ symmetric f n
  whole_of =
      square-same n (half_entry (half f n)) (λ i j. f (max i j) (min i j))
      (λ i j h k. ⊎_elim
      (λ (b : i < j). let l : i ≤ j = omega arith in rw (max-eq_right l, min-eq_left l) (half-swap (half f n) i j ∙ entry-half f n j i k l))
      (λ (b : j ≤ i). rw (max-eq_left b, min-eq_right b) (entry-half f n i j h b))
      (lt-or-le i j))

  pub half-symmetric : half_of n (symmetric f n) ≡ half f n
  half-symmetric = half-same n (entry n (symmetric f n)) f (λ i j h l. entry-symmetric n f i j h (omega arith) ∙ rw (max-eq_left l, min-eq_right l))

-- a half has a number that is not finite exactly where its whole has one
module _ (n : ℕ) (f : ℕ → ℕ → Float) where
  abbrev bad : List Float → ℕ → Bool
  bad a t = not (finite (a ‼ t))

  pub half-finite : first_bad (half f n) ≡ None → first_bad (symmetric f n) ≡ None
  unfolding first_bad
  half-finite e = go (first_bad (symmetric f n)) refl
    where
      entries : (i j : ℕ) → i < n → j ≤ i → not (finite (f i j)) ≡ false
      entries i j h l =
          let d = triangle-apart h in
          let o = length-half f n in
          rw (place-half f n i j h l) at (none-at (bad (half f n)) (length (half f n)) (triangle i + j) e (omega arith))

      all : (t : ℕ) → t < n * n → bad (symmetric f n) t ≡ false
      all t h =
          let o : 0 < n = above n h in
          let i = (div-lt_iff_lt-mul o).1 h in
          rw (get_d-table (λ p. f (max (p / n) (p % n)) (min (p / n) (p % n))) (n * n) t nan h)
          (entries (max (t / n) (t % n)) (min (t / n) (t % n)) (larger-in (t / n) (t % n) i (mod-lt t o)) (smaller-in (t / n) (t % n)))

      go : (r : Option ℕ) → first_bad (symmetric f n) ≡ r → r ≡ None
      go None q = refl
      go (Some t) q =
          let s = found-holds (bad (symmetric f n)) (length (symmetric f n)) t q in
          absurd (true≢false (sym s.1 ∙ all t (omega (arith, s.0, length-symmetric n f))))

  pub half-not-finite : (t : ℕ) → first_bad (half f n) ≡ Some t → first_bad (symmetric f n) ≡ None → ⊥
  unfolding first_bad
  half-not-finite t e q =
      let s = found-holds (bad (half f n)) (length (half f n)) t e in
      let o = length-half f n in
      let p = placed n t (omega (arith, s.0)) in
      true≢false (sym s.1 ∙ fine p.row p.column p.row_in p.column-in p.at)
    where
      fine : (i j : ℕ) → i < n → j ≤ i → t ≡ triangle i + j → bad (half f n) t ≡ false
      fine i j h l p =
          rw (p, place-half f n i j h l)
          (rw (entry-symmetric n f i j h (omega arith), max-eq_left l, min-eq_right l) at (none-at (bad (symmetric f n)) (length (symmetric f n)) (i * n + j) q (omega (arith, length-symmetric n f, digits_lt {q = i} {m = n} {r = j} {c = n} h (omega arith)))))

-- ---- columns lo to hi of row i, stored

module _ (n : ℕ) (f g : ℕ → ℕ → Float) (i : ℕ) {lo hi : ℕ} (h : i < n) (k : lo ≤ hi) (m : hi ≤ i + 1) (ys : List Float) (e : length ys ≡ hi - lo) where
  bound : triangle i + hi ≤ length (half f n)
  bound = omega (arith, triangle-apart h, length-half f n)

  width : length ys ≡ triangle i + hi - (triangle i + lo)
  width = e ∙ omega arith

  -- g is f but for those columns of row i
  pub part-half : ((c : ℕ) → lo ≤ c → c < hi → ys ‼ (c - lo) ≡ g i c) → ((c : ℕ) → c ≤ i → (c < lo) ⊎ (hi ≤ c) → f i c ≡ g i c)
      → ((r c : ℕ) → r < n → c ≤ r → (r ≡ i → ⊥) → f r c ≡ g r c) → with_part (triangle i + lo) (triangle i + hi) (half f n) ys ≡ half g n
  part-half inside outside others =
      half-of g n new (length-with_part (half f n) (omega arith) bound ys width ∙ length-half f n) (λ r c p q. half-low new r c q ∙ at_entry r c p q)
    where
      new : List Float
      new = with_part (triangle i + lo) (triangle i + hi) (half f n) ys

      same_row : (c : ℕ) → c ≤ i → new ‼ (triangle i + c) ≡ g i c
      same_row c q =
          ⊎_elim
          (λ b. part-before (half f n) ys (omega arith) bound width (triangle i + c) (omega arith) ∙ place-half f n i c h q ∙ outside c q (inl b))
          (λ b. ⊎_elim
          (λ d. let z : triangle i + c ≡ triangle i + lo + (c - lo) = omega arith in
          ap (λ (y : ℕ). new ‼ y) z ∙ part-inside (half f n) ys (omega arith) bound width (c - lo) (omega arith) ∙ inside c b d)
          (λ d. part-after (half f n) ys (omega arith) bound width (triangle i + c) (omega arith) ∙ place-half f n i c h q ∙ outside c q (inr d))
          (lt-or-le c hi))
          (lt-or-le c lo)

      at_entry : (r c : ℕ) → r < n → c ≤ r → new ‼ (triangle r + c) ≡ g r c
      at_entry r c p q =
          ⊎_elim
          (λ b. part-before (half f n) ys (omega arith) bound width (triangle r + c) (omega (arith, triangle-apart b))
          ∙ place-half f n r c p q ∙ others r c p q (λ z. omega arith))
          (λ b. ⊎_elim
          (λ (d : r < i + 1). let z : r ≡ i = omega arith in rw z (same_row c (omega arith)))
          (λ (d : i + 1 ≤ r). part-after (half f n) ys (omega arith) bound width (triangle r + c) (omega (arith, triangle-apart {i = i} {r = r} (omega arith)))
          ∙ place-half f n r c p q ∙ others r c p q (λ z. omega arith))
          (lt-or-le r (i + 1)))
          (lt-or-le r i)

-- ---- rows, one after another

module _ (n : ℕ) (new old : ℕ → ℕ → Float) where
  -- row r, when the first i rows are new
  abbrev rows_by : ℕ → ℕ → ℕ → Float
  rows_by i r c = cond (ltb r i) (new r c) (old r c)

  -- the first i rows new, the others old
  unfoldable pub rows_to : ℕ → List Float
  rows_to i = half (rows_by i) n

  pub length-rows : (i : ℕ) → length (rows_to i) ≡ triangle n
  unfolding rows_to
  length-rows i = length-half (rows_by i) n

  -- the first rows may be the same either way
  pub rows-from : (i : ℕ) → ((r c : ℕ) → r < i → c ≤ r → new r c ≡ old r c) → half old n ≡ rows_to i
  unfolding rows_to
  rows-from i e =
      half-same n old (rows_by i)
      (λ r c h k. ⊎_elim (λ (b : r < i). rw (lt-ltb r i b) (sym (e r c b k))) (λ (b : i ≤ r). rw (le-ltb r i b)) (lt-or-le r i))

  pub rows_none : half old n ≡ rows_to 0
  rows_none = rows-from 0 (λ r c h. absurd (not-suc-le-zero h))

  -- row i, when its turn comes
  pub row_old : (i c : ℕ) → i < n → c ≤ i → rows_to i ‼ (triangle i + c) ≡ old i c
  unfolding rows_to
  row_old i c h k = place-half (rows_by i) n i c h k ∙ rw (le-ltb i i (omega arith))

  pub rows_all : rows_to n ≡ half new n
  unfolding rows_to
  rows_all = half-same n (rows_by n) new (λ r c h k. rw (lt-ltb r n h))

  module _ (i : ℕ) (h : i < n) where
    -- columns lo to hi of row i, each number made of the one that stood there
    pub rows-part : {lo hi : ℕ} (g : ℕ → Float → Float) → lo ≤ hi → hi ≤ i + 1
        → ((c : ℕ) → lo ≤ c → c < hi → g (c - lo) (old i c) ≡ new i c) → ((c : ℕ) → c ≤ i → (c < lo) ⊎ (hi ≤ c) → old i c ≡ new i c)
        → with_part (triangle i + lo) (triangle i + hi) (rows_to i) (table (λ j. g j (rows_to i ‼ (triangle i + (lo + j)))) (hi - lo)) ≡ rows_to (i + 1)
    unfolding rows_to
    rows-part {lo} {hi} g k m inside outside =
        part-half n (rows_by i) (rows_by (i + 1)) i h k m (table (λ j. g j (rows_to i ‼ (triangle i + (lo + j)))) (hi - lo)) (length-table _ _) right
        (λ c q o. rw (le-ltb i i (omega arith), lt-ltb i (i + 1) (omega arith)) (outside c q o))
        (λ r c p q z. ⊎_elim (λ (b : r < i). rw (lt-ltb r i b, lt-ltb r (i + 1) (omega arith)))
        (λ (b : i ≤ r). ⊎_elim (λ (d : r < i + 1). absurd (z (omega arith))) (λ (d : i + 1 ≤ r). rw (le-ltb r i b, le-ltb r (i + 1) d)) (lt-or-le r (i + 1)))
        (lt-or-le r i))
      where
        right : (c : ℕ) → lo ≤ c → c < hi → table (λ j. g j (rows_to i ‼ (triangle i + (lo + j)))) (hi - lo) ‼ (c - lo) ≡ rows_by (i + 1) i c
        right c b d =
            let z : lo + (c - lo) ≡ c = omega arith in
            rw (lt-ltb i (i + 1) (omega arith))
            (get_d-table (λ j. g j (rows_to i ‼ (triangle i + (lo + j)))) (hi - lo) (c - lo) nan (omega arith)
            ∙ ap (g (c - lo)) (rw z (row_old i c h (omega arith))) ∙ inside c b d)

    -- the same, as a function that is lent those numbers leaves them
    pub rows-kernel : (a e : ℕ) {lo hi : ℕ} (g : ℕ → Float → Float) → a ≡ triangle i + lo → e ≡ triangle i + hi → lo ≤ hi → hi ≤ i + 1
        → ((c : ℕ) → lo ≤ c → c < hi → g (c - lo) (old i c) ≡ new i c) → ((c : ℕ) → c ≤ i → (c < lo) ⊎ (hi ≤ c) → old i c ≡ new i c)
        → with_part a e (rows_to i) (table (λ j. g j (part a e (rows_to i) ‼ j)) (length (part a e (rows_to i)))) ≡ rows_to (i + 1)
    rows-kernel a e {lo} {hi} g s t k m inside outside =
        rw (s, t)
        (ap (with_part (triangle i + lo) (triangle i + hi) (rows_to i)) (ap (table (λ j. g j (lent ‼ j))) wide ∙ table_same _ _ (hi - lo) (λ j b. ap (g j) (here j b)))
        ∙ rows-part g k m inside outside)
      where
        lent : List Float
        lent = part (triangle i + lo) (triangle i + hi) (rows_to i)

        within : triangle i + hi ≤ length (rows_to i)
        within = omega (arith, triangle-apart h, length-rows i)

        wide : length lent ≡ hi - lo
        wide = length_part (rows_to i) {a = triangle i + lo} {e = triangle i + hi} (omega arith) within ∙ omega arith

        here : (j : ℕ) → j < hi - lo → lent ‼ j ≡ rows_to i ‼ (triangle i + (lo + j))
        here j b =
            let z : triangle i + lo + j ≡ triangle i + (lo + j) = omega arith in
            get_d_part (rows_to i) {a = triangle i + lo} {e = triangle i + hi} (omega arith) within j nan (omega arith) ∙ ap (λ (y : ℕ). rows_to i ‼ y) z

-- ---- one entry stored

module _ (n : ℕ) (f g : ℕ → ℕ → Float) (i j : ℕ) (h : i < n) (k : j ≤ i) where
  same_place : (r c : ℕ) → c ≤ r → triangle r + c ≡ triangle i + j → (r ≡ i) × (c ≡ j)
  same_place r c l e =
      ⊎_elim (λ (b : r < i). absurd (omega (arith, triangle-apart b)))
      (λ (b : i ≤ r). ⊎_elim (λ (d : i < r). absurd (omega (arith, triangle-apart d))) (λ (d : r ≤ i). let z : r ≡ i = omega arith in (z, omega (arith, ap triangle z))) (lt-or-le i r))
      (lt-or-le r i)

  -- g is f but for entry (i, j)
  pub store-half : ((r c : ℕ) → r < n → c ≤ r → ((r ≡ i) × (c ≡ j) → ⊥) → f r c ≡ g r c) → set (half f n) (triangle i + j) (g i j) ≡ half g n
  store-half other =
      half-of g n new (length-set (half f n) (triangle i + j) (g i j) ∙ length-half f n) (λ r c p q. half-low new r c q ∙ pick r c p q (ℕ_discrete (triangle r + c) (triangle i + j)))
    where
      new : List Float
      new = set (half f n) (triangle i + j) (g i j)

      pick : (r c : ℕ) → r < n → c ≤ r → Dec (triangle r + c ≡ triangle i + j) → new ‼ (triangle r + c) ≡ g r c
      pick r c p q (yes e) =
          let z = same_place r c q e in
          rw (z.0, z.1) (get_or-set_same (half f n) (triangle i + j) (g i j) nan (omega (arith, triangle-apart h, length-half f n)))
      pick r c p q (no e) =
          get_or-set_other (half f n) (triangle i + j) (triangle r + c) (g i j) nan e ∙ place-half f n r c p q
          ∙ other r c p q (λ z. e (rw (z.0, z.1)))
