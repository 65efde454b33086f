-- The theorems about sheet files. A file is accepted exactly where its entries tile it, a refusal is given exactly where it is the first that the file meets, a reader finds an
-- accepted file's entries in order, and the columns stand column after column. One idea: `first_met` answers `sheets` exactly where no refusal of the list is met. Assumes nothing.
use Prim.Native.Nat.{ℕ, zero, suc, ◌+◌, ◌-◌, ◌*◌, ◌^◌, ◌≤◌, ◌<◌}
use native.Mathlib.Nat.{eq-or-lt_of_le, not-suc-le-zero, zero-add, mul-suc, mul_comm}
use native.Mathlib.Numerals.{add-one}
use native.Mathlib.Omega.{arith}
use mathlib.Core.Path.{◌≡◌, refl, sym, ap, ◌∙◌}
use mathlib.Core.Logic.{⊎_elim}
use mathlib.Core.Bool.{Bool, true, false, not, cond, ◌&&◌, ◌||◌, true≢false}
use mathlib.Core.List.{List, [], ◌∷◌, ◌++◌}
use lib.Dec.{eqb, ltb}
use borrow.Author.Tests.{lt-ltb, le-ltb, le-leb, eq-eqb, ltb-false, eqb-true, not-false}
use lib.Arith.{digits_lt}
use lib.ListN.{length, take, drop}
use lib.Seq.{take_at}
use lib.Ieee.{Float, nan}
use Rattle.floats.specs.Words.{◌‼◌}
use Rattle.floats.specs.Tables.{table}
use Rattle.floats.proofs.TableLaws.{length-table, get_d-table}
use Rattle.sheet.specs.Contents.{most_numbers, count_of, entry_place, entry_of, body_start, numbers_start, body_end, position_of, body_number, numbers_of, residuals_of, columns_of, read_count, read_into}
use Rattle.sheet.specs.Rising.{rises, Rising}
use Rattle.sheet.specs.Reading.{Reading, sheets, refused, due_at, not_rising, meets, refusals_from, refusals, first_met, read_file, check_of, next_of, one_further}
use Rattle.sheet.specs.Tiling.{Known, Tiled, NoneMet, MetFirst}
use Rattle.sheet.specs.declared.file.Entry.{Entry}
use Rattle.sheet.specs.declared.file.FileRefusal.{FileRefusal}
use Rattle.sheet.specs.declared.file.FileRefusal.TheVariants.{Codes, Offset, PastEnd, NotRising, LeftOver}
use Rattle.std.specs.Prelude.{Option, Some, None, Ok, Err}
use Rattle.sheet.proofs.RisingLaws.{rises-each, each-rises}

neither : {f : FileRefusal} {es : List Entry} → refused f ≡ sheets es → ⊥
neither q = let z : ◌≡◌ {A = ℕ} 0 1 = cc in omega arith

-- both of two tests fail
both-fail : (a b : Bool) → a || b ≡ false → (a ≡ false) × (b ≡ false)
both-fail true b h = absurd (true≢false h)
both-fail false b h = (refl, h)

-- entry j meets none of an entry's refusals
record Passed (file : List ℕ) (j : ℕ) : Type 0 where
  codes : meets file (Codes j) ≡ false
  offset : meets file (Offset j) ≡ false
  end : meets file (PastEnd j) ≡ false
  rising : meets file (NotRising j) ≡ false

module _ (file : List ℕ) where
  -- ---- the first that is met

  all-passed : (fs : List FileRefusal) {es : List Entry} → first_met file fs ≡ sheets es → NoneMet file fs × (es ≡ table (entry_of file) (count_of file))
  unfolding first_met
  all-passed [] h = (tt, cc)
  all-passed (f ∷ fs) {es} h = go (meets file f) refl h (λ k. all-passed fs k)
    where
      go : (b : Bool) → meets file f ≡ b → cond b (refused f) (first_met file fs) ≡ sheets es → (first_met file fs ≡ sheets es → NoneMet file fs × (es ≡ table (entry_of file) (count_of file)))
          → NoneMet file (f ∷ fs) × (es ≡ table (entry_of file) (count_of file))
      go true e h rest = absurd (neither h)
      go false e h rest = let r = rest h in ((e, r.0), r.1)

  passes-all : (fs : List FileRefusal) → NoneMet file fs → first_met file fs ≡ sheets (table (entry_of file) (count_of file))
  unfolding first_met
  passes-all [] n = refl
  passes-all (f ∷ fs) n = rw n.0 (passes-all fs n.1)

  stops_at : (before after : List FileRefusal) {f : FileRefusal} → NoneMet file before → meets file f ≡ true → first_met file (before ++ (f ∷ after)) ≡ refused f
  unfolding first_met
  stops_at [] after n m = rw m
  stops_at (g ∷ gs) after n m = rw n.0 (stops_at gs after n.1 m)

  found_at : (fs : List FileRefusal) {f : FileRefusal} → first_met file fs ≡ refused f → MetFirst file fs f
  unfolding first_met
  found_at [] h = absurd (neither (sym h))
  found_at (g ∷ gs) {f} h = go (meets file g) refl h (λ k. found_at gs k)
    where
      go : (b : Bool) → meets file g ≡ b → cond b (refused g) (first_met file gs) ≡ refused f → (first_met file gs ≡ refused f → MetFirst file gs f) → MetFirst file (g ∷ gs) f
      go true e h rest = let s : g ≡ f = cc in record { before = []; after = gs; order = ap (λ x. x ∷ gs) s; none = tt; met = rw s at e }
      go false e h rest = let r = rest h in record { before = g ∷ r.before; after = r.after; order = ap (λ x. g ∷ x) r.order; none = (e, r.none); met = r.met }

  -- ---- what no refusal met says of each entry

  each-entry : (i left j : ℕ) → NoneMet file (refusals_from i left) → i ≤ j → j < i + left → Passed file j
  unfolding refusals_from
  each-entry i zero j n a b = absurd (not-suc-le-zero {n = 0} (omega arith))
  each-entry i (suc left) j n a b =
      ⊎_elim (λ e. rw (← e) (record { codes = n.0; offset = n.1.0; end = n.1.1.0; rising = n.1.1.1.0 }))
      (λ l. each-entry (i + 1) left j n.1.1.1.1 (omega arith) (omega arith)) (eq-or-lt_of_le {n = i} {m = j} a)

  the_end : (i left : ℕ) → NoneMet file (refusals_from i left) → meets file LeftOver ≡ false
  unfolding refusals_from
  the_end i zero n = n.0
  the_end i (suc left) n = the_end (i + 1) left n.1.1.1.1

  no-entry : (i left : ℕ) → ((j : ℕ) → j < i + left → Passed file j) → meets file LeftOver ≡ false → NoneMet file (refusals_from i left)
  unfolding refusals_from
  no-entry i zero h e = (e, tt)
  no-entry i (suc left) h e = let r = h i (omega arith) in (r.codes, (r.offset, (r.end, (r.rising, no-entry (i + 1) left (λ j l. h j (omega arith)) e))))

  -- ---- accepted exactly where the entries tile the file

  known_by : (i : ℕ) → meets file (Codes i) ≡ false → Known file i
  unfolding meets
  known_by i h =
      let a = both-fail (ltb 2 (entry_of file i).alternative) _ h in
      let b = both-fail (ltb 2 (entry_of file i).choice) _ a.1 in
      let c = both-fail (ltb 1 (entry_of file i).positions) _ b.1 in
      (ltb-false _ _ a.0, ltb-false _ _ b.0, ltb-false _ _ c.0, eqb-true _ _ (not-false _ c.1))

  codes-by : (i : ℕ) → Known file i → meets file (Codes i) ≡ false
  unfolding meets
  codes-by i k = rw (le-ltb _ _ k.0, le-ltb _ _ k.1, le-ltb _ _ k.2, eq-eqb _ _ k.3)

  offset-by : (i : ℕ) → meets file (Offset i) ≡ false → body_start (entry_of file i) ≡ due_at file i
  unfolding meets
  offset-by i h = eqb-true _ _ (not-false _ h)

  rising-by : (i : ℕ) → meets file (NotRising i) ≡ false → (entry_of file i).positions ≡ 1 → Rising (position_of file (entry_of file i)) (entry_of file i).rows
  unfolding meets not_rising
  rising-by i h p = rises-each _ _ (not-false _ (rw (eq-eqb _ _ p) at h))

  none-falls : (i : ℕ) → ((entry_of file i).positions ≡ 1 → Rising (position_of file (entry_of file i)) (entry_of file i).rows) → meets file (NotRising i) ≡ false
  unfolding meets not_rising
  none-falls i h = go (eqb (entry_of file i).positions 1) refl
    where
      go : (b : Bool) → eqb (entry_of file i).positions 1 ≡ b → b && not (rises (position_of file (entry_of file i)) (entry_of file i).rows) ≡ false
      go true e = rw (each-rises (position_of file (entry_of file i)) (entry_of file i).rows (h (eqb-true _ _ e)))
      go false e = refl

  due-next : (i : ℕ) → due_at file (i + 1) ≡ body_end (entry_of file i)
  unfolding due_at
  due-next i = rw add-one

  due-last : {n : ℕ} → 1 ≤ n → due_at file n ≡ body_end (entry_of file (n - 1))
  due-last {n} h = let e : n ≡ n - 1 + 1 = omega arith in ap (due_at file) e ∙ due-next (n - 1)

  tiled-by : NoneMet file (refusals (count_of file)) → Tiled file (count_of file)
  unfolding meets due_at
  tiled-by n =
      let size = both-fail (ltb (length file) 4) _ n.0 in
      let count = both-fail (ltb (count_of file) 1) _ n.1.0 in
      let some : 1 ≤ count_of file = ltb-false _ _ count.0 in
      let each : (i : ℕ) → i < count_of file → Passed file i = λ i l. each-entry 0 (count_of file) i n.1.1.1 (omega arith) (omega arith) in
      record {
        least = ltb-false _ _ size.0;
        most = ltb-false _ _ size.1;
        count = refl;
        some = some;
        few = ltb-false _ _ count.1;
        contents = ltb-false _ _ n.1.1.0;
        known = λ i l. known_by i (each i l).codes;
        first = offset-by 0 (each 0 some).offset;
        next = λ i l. offset-by (i + 1) (each (i + 1) l).offset ∙ due-next i;
        within = λ i l. ltb-false _ _ (each i l).end;
        rising = λ i l. rising-by i (each i l).rising;
        last = sym (due-last some) ∙ eqb-true _ _ (not-false _ (the_end 0 (count_of file) n.1.1.1));
      }

  -- where entry i's offset should be, in a tiled file
  due-by : {n : ℕ} → Tiled file n → (i : ℕ) → i < n → body_start (entry_of file i) ≡ due_at file i
  unfolding due_at
  due-by t zero l = t.first ∙ ap entry_place t.count
  due-by t (suc i) l = rw add-one at (t.next i (rw add-one l))

  none-by : {n : ℕ} → Tiled file n → NoneMet file (refusals (count_of file))
  unfolding meets
  none-by {n} t =
      let c = t.count in
      let end : due_at file (count_of file) ≡ length file = rw (← c) (due-last t.some ∙ t.last) in (
        rw (le-ltb _ _ t.least, le-ltb _ _ t.most),
        (
          rw (← c, le-ltb _ _ t.some, le-ltb _ _ t.few),
          (
            rw (← c, le-ltb _ _ t.contents),
            no-entry 0 (count_of file) (λ j l. let k : j < n = omega arith in record { codes = codes-by j (t.known j k); offset = rw (eq-eqb _ _ (due-by t j k)); end = le-ltb _ _ (t.within j k); rising = none-falls j (t.rising j k) }) (rw (eq-eqb _ _ end)),
          ),
        ),
      )

-- `check_file` accepts a file with the count n exactly where n entries tile it
pub accepted-tiled : (file : List ℕ) (n : ℕ) → check_of (read_file file) ≡ Ok n → Tiled file n
unfolding read_file
accepted-tiled file n h = go (first_met file (refusals (count_of file))) refl h
  where
    go : (r : Reading) → first_met file (refusals (count_of file)) ≡ r → check_of r ≡ Ok n → Tiled file n
    go (sheets es) e h =
        let r = all-passed file (refusals (count_of file)) e in
        let k : count_of file ≡ n = sym (ap length r.1 ∙ length-table (entry_of file) (count_of file)) ∙ cc in
        rw k at (tiled-by file r.0)
    go (refused f) e h = absurd (let z : ◌≡◌ {A = ℕ} 0 1 = cc in omega arith)

pub tiled-accepted : (file : List ℕ) (n : ℕ) → Tiled file n → check_of (read_file file) ≡ Ok n
unfolding read_file
tiled-accepted file n t = ap check_of (passes-all file (refusals (count_of file)) (none-by file t)) ∙ ap Ok (length-table (entry_of file) (count_of file) ∙ sym t.count)

-- a refusal is given exactly where its condition holds and none before it in the order does
pub refused-first : (file : List ℕ) (f : FileRefusal) → check_of (read_file file) ≡ Err f → MetFirst file (refusals (count_of file)) f
unfolding read_file
refused-first file f h = go (first_met file (refusals (count_of file))) refl h
  where
    go : (r : Reading) → first_met file (refusals (count_of file)) ≡ r → check_of r ≡ Err f → MetFirst file (refusals (count_of file)) f
    go (sheets es) e h = absurd (let z : ◌≡◌ {A = ℕ} 0 1 = cc in omega arith)
    go (refused g) e h = let k : g ≡ f = cc in found_at file (refusals (count_of file)) (e ∙ ap refused k)

pub first-refused : (file : List ℕ) (f : FileRefusal) → MetFirst file (refusals (count_of file)) f → check_of (read_file file) ≡ Err f
unfolding read_file
first-refused file f m = ap check_of (ap (first_met file) m.order ∙ stops_at file m.before m.after m.none m.met)

-- ---- what a caller learns of an accepted file

-- what a file is read into, in full
pub tiled-sheets : (file : List ℕ) (n : ℕ) → Tiled file n → read_file file ≡ sheets (table (entry_of file) n)
unfolding read_file
tiled-sheets file n t = passes-all file (refusals (count_of file)) (none-by file t) ∙ rw t.count

-- a reader finds the entries in order, and then the end
pub reads-entry : (file : List ℕ) (n : ℕ) → Tiled file n → (i : ℕ) → i < n → next_of file i ≡ Some (entry_of file i)
reads-entry file n t i l =
    let c = t.count in
    let p : entry_place (i + 1) ≤ length file = omega (arith, t.contents) in
    rw (← c, lt-ltb _ _ l, le-leb _ _ p)

pub reads_end : (file : List ℕ) (n : ℕ) → Tiled file n → (i : ℕ) → n ≤ i → next_of file i ≡ None
reads_end file n t i l = let c = t.count in rw (← c, le-ltb _ _ l)

-- a reader one further is at the number after
pub further-next : (i : ℕ) → i + 1 < 2 ^ 64 → one_further i ≡ i + 1
further-next i l = rw (lt-ltb _ _ l)

-- runs of so many numbers hold the residuals and the columns of any entry
pub body-fits : (file : List ℕ) (n : ℕ) → Tiled file n → (i : ℕ) → i < n → ((entry_of file i).rows ≤ most_numbers) × ((entry_of file i).rows * (entry_of file i).columns ≤ most_numbers)
body-fits file n t i l = go (numbers_start (entry_of file i)) (entry_of file i).rows (entry_of file i).columns (t.within i l)
  where
    go : (a r k : ℕ) → a + 8 * (r * (k + 1)) ≤ length file → (r ≤ most_numbers) × (r * k ≤ most_numbers)
    go a r k h = let m : r * (k + 1) ≡ r * k + r = rw add-one (mul-suc r k) in let b = t.most in (omega arith, omega arith)

-- what a caller of `read_entry` learns of the entry that it is given: which it is, that its body lies within the file, and that the runs hold it
pub entry_read : (file : List ℕ) (n : ℕ) → Tiled file n → (i : ℕ) → i < n → {r : Option Entry} {e : Entry} → r ≡ next_of file i → r ≡ Some e
    → (e ≡ entry_of file i) × (body_end e ≤ length file) × (e.rows ≤ most_numbers) × (e.rows * e.columns ≤ most_numbers)
entry_read file n t i l {r} {e} p q =
    let k : e ≡ entry_of file i = same-sheet (sym q ∙ p ∙ reads-entry file n t i l) in
    let b = body-fits file n t i l in
    (k, rw k (t.within i l), rw k b.0, rw k b.1)
  where
    same-sheet : {e e' : Entry} → Some e ≡ Some e' → e ≡ e'
    same-sheet h = cc

-- residual t, and row t of column c, by their places in the body
pub residual-at : (file : List ℕ) (e : Entry) (t : ℕ) → t < e.rows → residuals_of file e ‼ t ≡ body_number file e t
residual-at file e t l = get_d-table (λ t. body_number file e (0 + t)) e.rows t nan l ∙ rw zero-add

pub column-at : (file : List ℕ) (e : Entry) (c t : ℕ) → c < e.columns → t < e.rows → columns_of file e ‼ (c * e.rows + t) ≡ body_number file e (e.rows + (c * e.rows + t))
column-at file e c t k l = get_d-table (λ t. body_number file e (e.rows + t)) (e.rows * e.columns) (c * e.rows + t) nan (rw (mul_comm e.rows e.columns) (digits_lt k l))

-- what the fronts of the runs are that `read_residuals` and `read_columns` leave
pub residuals-front : (file : List ℕ) (e : Entry) (rest : List Float) → take e.rows (residuals_of file e ++ rest) ≡ residuals_of file e
residuals-front file e rest = take_at (residuals_of file e) rest e.rows (length-table (λ t. body_number file e (0 + t)) e.rows)

pub columns-front : (file : List ℕ) (e : Entry) (rest : List Float) → take (e.rows * e.columns) (columns_of file e ++ rest) ≡ columns_of file e
columns-front file e rest = take_at (columns_of file e) rest (e.rows * e.columns) (length-table (λ t. body_number file e (e.rows + t)) (e.rows * e.columns))

-- what is read where the body lies within the file and the run is long enough: all the numbers, at the front of the run
module _ (file : List ℕ) (e : Entry) (run : List Float) {r : ℕ} {left : List Float} (within : body_end e ≤ length file) where
  numbers-front : (first count : ℕ) → count ≤ length run → r ≡ read_count file e count run → left ≡ read_into file e first count run → (r ≡ count) × (take r left ≡ numbers_of file e first count)
  numbers-front first count room p q =
      let all : r ≡ count = rw (le-leb _ _ within, le-leb _ _ room) at p in
      let front : left ≡ numbers_of file e first count ++ drop count run = rw (le-leb _ _ within, le-leb _ _ room) at q in
      (all, rw (all, front) (take_at (numbers_of file e first count) (drop count run) count (length-table (λ t. body_number file e (first + t)) count)))

  pub residuals-read : e.rows ≤ length run → r ≡ read_count file e e.rows run → left ≡ read_into file e 0 e.rows run → (r ≡ e.rows) × (take r left ≡ residuals_of file e)
  residuals-read = numbers-front 0 e.rows

  pub columns-read : e.rows * e.columns ≤ length run → r ≡ read_count file e (e.rows * e.columns) run → left ≡ read_into file e e.rows (e.rows * e.columns) run
      → (r ≡ e.rows * e.columns) × (take r left ≡ columns_of file e)
  columns-read = numbers-front e.rows (e.rows * e.columns)
