-- A whole file is read into its entries, or refused: file refusals 1 to 7 of document 01 and 8 of document 02 (W-202), each with its condition, in the order in which they are tried.
-- Places and sizes are those of specs/Contents.antt. Definitions only. Assumes nothing.
use Rattle.std.specs.Prelude.{ℕ, zero, suc, ◌+◌, ◌^◌, Bool, not, cond, ◌&&◌, ◌||◌, List, [], ◌∷◌, eqb, ltb, leb, length, is_some, ◌≡◌, Option, Some, None, Result, Ok, Err, ⊤}
use Rattle.floats.specs.Tables.{table}
use Rattle.sheet.specs.Contents.{largest_file, most_entries, count_of, entry_place, entry_of, spare_of, body_start, body_end, position_of}
use Rattle.sheet.specs.Rising.{rises}
use Rattle.sheet.specs.declared.file.Entry.{Entry}
use Rattle.sheet.specs.declared.reader.Reader.{Reader}
use Rattle.sheet.specs.declared.file.FileRefusal.{FileRefusal}
use Rattle.sheet.specs.declared.file.FileRefusal.TheVariants.{Size, Count, ContentsCut, Codes, Offset, PastEnd, NotRising, LeftOver}

-- the number of a file refusal, and the entry's index, 0 where none
abbrev pub number_of : FileRefusal → ℕ
number_of Size = 1
number_of Count = 2
number_of ContentsCut = 3
number_of (Codes i) = 4
number_of (Offset i) = 5
number_of (PastEnd i) = 6
number_of (NotRising i) = 8
number_of LeftOver = 7

abbrev pub index_of : FileRefusal → ℕ
index_of Size = 0
index_of Count = 0
index_of ContentsCut = 0
index_of (Codes i) = i
index_of (Offset i) = i
index_of (PastEnd i) = i
index_of (NotRising i) = i
index_of LeftOver = 0

-- where the body of entry i is due: where the contents end, or the body before it
unfoldable pub due_at : List ℕ → ℕ → ℕ
due_at file zero = entry_place (count_of file)
due_at file (suc i) = body_end (entry_of file i)

-- an entry has positions, and they do not rise
unfoldable pub not_rising : List ℕ → Entry → Bool
not_rising file e = eqb e.positions 1 && not (rises (position_of file e) e.rows)

-- the condition of each refusal
unfoldable pub meets : List ℕ → FileRefusal → Bool
meets file Size = ltb (length file) 4 || ltb largest_file (length file)
meets file Count = ltb (count_of file) 1 || ltb most_entries (count_of file)
meets file ContentsCut = ltb (length file) (entry_place (count_of file))
meets file (Codes i) = ltb 2 (entry_of file i).alternative || (ltb 2 (entry_of file i).choice || (ltb 1 (entry_of file i).positions || not (eqb (spare_of file i) 0)))
meets file (Offset i) = not (eqb (body_start (entry_of file i)) (due_at file i))
meets file (PastEnd i) = ltb (length file) (body_end (entry_of file i))
meets file (NotRising i) = not_rising file (entry_of file i)
meets file LeftOver = not (eqb (due_at file (count_of file)) (length file))

-- their order: entry by entry for `left` entries from entry i on, and last bytes left over; and for a file of n entries
unfoldable pub refusals_from : ℕ → ℕ → List FileRefusal
refusals_from i zero = LeftOver ∷ []
refusals_from i (suc left) = Codes i ∷ Offset i ∷ PastEnd i ∷ NotRising i ∷ refusals_from (i + 1) left

abbrev pub refusals : ℕ → List FileRefusal
refusals n = Size ∷ Count ∷ ContentsCut ∷ refusals_from 0 n

-- what a file is read into
pub data Reading : Type 0 where
  sheets : List Entry → Reading
  refused : FileRefusal → Reading

-- the first of some refusals that a file meets, and its entries where it meets none
unfoldable pub first_met : List ℕ → List FileRefusal → Reading
first_met file [] = sheets (table (entry_of file) (count_of file))
first_met file (f ∷ fs) = cond (meets file f) (refused f) (first_met file fs)

unfoldable pub read_file : List ℕ → Reading
read_file file = first_met file (refusals (count_of file))

-- accepted with the count of entries, or refused
abbrev pub check_of : Reading → Result ℕ FileRefusal
check_of (sheets es) = Ok (length es)
check_of (refused f) = Err f

-- what is wrong with entry i, if anything
abbrev pub entry_fault : List ℕ → ℕ → Result ⊤ FileRefusal
entry_fault file i =
    cond (meets file (Codes i)) (Err (Codes i))
    (cond (meets file (Offset i)) (Err (Offset i))
    (cond (meets file (PastEnd i)) (Err (PastEnd i))
    (cond (meets file (NotRising i)) (Err (NotRising i)) (Ok tt))))

-- what a reader whose next entry is i finds: that entry, where the contents have it
abbrev pub next_of : List ℕ → ℕ → Option Entry
next_of file i = cond (ltb i (count_of file) && leb (entry_place (i + 1)) (length file)) (Some (entry_of file i)) None

-- the number behind i, of those below 2^64; behind the last there is none, and it stays
abbrev pub one_further : ℕ → ℕ
one_further i = cond (ltb (i + 1) (2 ^ 64)) (i + 1) i

-- a reader at s that is asked for its next entry gives r and is then at t: what stands at its number, and one further; at the end it stays
abbrev pub NextGives : Reader → Option Entry → Reader → Type 0
NextGives s r t = (r ≡ next_of s.file.now s.next) × (t.file ≡ s.file) × (t.next ≡ cond (is_some r) (one_further s.next) s.next)
