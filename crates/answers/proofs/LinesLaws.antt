-- The lines of a file's sheets: how long they are, and how they are put one behind the other. Assumes nothing.
use Prim.Native.Nat.{ℕ, zero, suc, ◌+◌, ◌*◌, ◌-◌, ◌≤◌}
use native.Mathlib.Nat.{add-zero, zero-add}
use native.Mathlib.Numerals.{add-one}
use native.Mathlib.Omega.{arith}
use mathlib.Core.Path.{◌≡◌, refl}
use mathlib.Core.List.{List, [], ◌∷◌, ◌++◌, append_assoc, append-nil}
use lib.Dec.{lit≤}
use lib.ListN.{length, take, drop, length-append, length-drop, drop_of_length-le}
use lib.Seq.{take_all, drop-drop}
use borrow.Author.Tests.{le-ltb}
use Rattle.floats.specs.Tables.{table}
use Rattle.floats.proofs.TableLaws.{length-table}
use Rattle.sheet.specs.Contents.{most_entries, entry_of}
use Rattle.sheet.specs.declared.file.Entry.{Entry}
use Rattle.lines.specs.Lines.{put_at, fronted, front_length}
use Rattle.lines.specs.Fields.{longest}
use Rattle.lines.proofs.PutLaws.{length-put, put-more}
use Rattle.lines.proofs.LineLaws.{result-length}
use Rattle.answers.specs.Answer.{lent_rows, result_of, sheet_line, lines_from, most_bytes}
use Rattle.answers.specs.Steps.{lines_to}

module _ (file : List ℕ) where
  -- behind some entries, others
  lines-append : (i : ℕ) (es fs : List Entry) → lines_from lent_rows file i (es ++ fs) ≡ lines_from lent_rows file i es ++ lines_from lent_rows file (i + length es) fs
  unfolding lines_from
  lines-append i [] fs = rw add-zero
  lines-append i (e ∷ es) fs =
      let q : i + 1 + length es ≡ i + suc (length es) = omega arith in
      rw (lines-append (i + 1) es fs, q, append_assoc (sheet_line lent_rows file i e) (lines_from lent_rows file (i + 1) es) (lines_from lent_rows file (i + suc (length es)) fs))

  pub to_none : lines_to file 0 ≡ []
  unfolding lines_from table
  to_none = refl

  pub to-more : (k : ℕ) → lines_to file (k + 1) ≡ lines_to file k ++ sheet_line lent_rows file k (entry_of file k)
  unfolding lines_from table
  to-more k =
      rw (add-one k, lines-append 0 (table (entry_of file) k) (entry_of file k ∷ []), length-table (entry_of file) k, zero-add, append-nil)

  -- no more than the longest for each
  pub to-length : (k : ℕ) → length (lines_to file k) ≤ k * longest
  to-length zero = rw to_none (lit≤ tt)
  to-length (suc k) =
      rw (← add-one k, to-more k, length-append (lines_to file k) (sheet_line lent_rows file k (entry_of file k)))
      (omega (arith, to-length k, result-length k (result_of lent_rows file (entry_of file k))))

  -- with the lines of the first k entries at the front a buffer is as long as it was, and has room for the lines of the others
  pub same-room : (l : List ℕ) (k : ℕ) → k ≤ most_entries → most_bytes ≤ length l → length (put_at 0 (lines_to file k) l) ≡ length l
  same-room l k few room = length-put 0 (lines_to file k) l (omega (arith, to-length k))

  pub room-left : (l : List ℕ) (n k : ℕ) → n ≤ most_entries → k ≤ n → most_bytes ≤ length l → length (lines_to file k) + (n - k) * longest ≤ length (put_at 0 (lines_to file k) l)
  room-left l n k few below room = omega (arith, to-length k, same-room l k (omega arith) room)

  -- the line of entry k put behind them
  pub put_next : (k : ℕ) (l : List ℕ) → put_at (length (lines_to file k)) (sheet_line lent_rows file k (entry_of file k)) (put_at 0 (lines_to file k) l) ≡ put_at 0 (lines_to file k ++ sheet_line lent_rows file k (entry_of file k)) l
  put_next k l = rw (← zero-add (length (lines_to file k))) (put-more 0 (lines_to file k) (sheet_line lent_rows file k (entry_of file k)) l (omega arith))

-- ---- a line put by a part of a buffer that is lent from `at` on

pub part-put : (at : ℕ) (line l : List ℕ) {r : ℕ} {ys : List ℕ} → at + longest ≤ length l → r ≡ front_length longest line (take (length l - at) (drop at l)) → ys ≡ fronted longest line (take (length l - at) (drop at l))
    → (at + r ≡ at + length line) × (take at l ++ (ys ++ drop (length l - at) (drop at l)) ≡ put_at at line l)
unfolding put_at
part-put at line l {r} {ys} room p q =
    let d : length (drop at l) ≡ length l - at = length-drop at l in
    let whole : take (length l - at) (drop at l) ≡ drop at l = take_all (length l - at) (drop at l) (omega arith) in
    let none : drop (length l - at) (drop at l) ≡ [] = drop_of_length-le (drop at l) {i = length l - at} (omega arith) in
    let fits : longest ≤ length (drop at l) = omega arith in
    rw (p, q, whole, none, le-ltb _ _ fits, append-nil, drop-drop (length line) at l) (refl, refl)
