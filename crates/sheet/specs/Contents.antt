-- What stands where in a sheet file (document 01, "The sheet program", and document 02, W-202): contents, a count and 16 bytes an entry, then the bodies.
-- A file is the list of its bytes, each below 256; a number of k bytes is `little_endian k file` at its place, the least byte first. Definitions only. Assumes nothing.
use Rattle.std.specs.Prelude.{ℕ, ◌+◌, ◌*◌, ◌/◌, ◌≤◌, ◌≡◌, Bool, cond, ◌&&◌, List, ◌++◌, leb, length, get_or, take, drop, Float}
use Rattle.floats.specs.Bits.{little_endian, float_at}
use Rattle.floats.specs.Tables.{table}
use Rattle.sheet.specs.declared.file.Entry.{Entry}

-- the largest file, in bytes; the most entries; and numbers of 8 bytes: no body has more
abbrev pub largest_file : ℕ
largest_file = 65536

abbrev pub most_entries : ℕ
most_entries = 64

abbrev pub most_numbers : ℕ
most_numbers = largest_file / 8

-- how many entries the file says it has
abbrev pub count_of : List ℕ → ℕ
count_of file = little_endian 4 file 0

-- where entry i of the contents begins; contents of i entries end there
abbrev pub entry_place : ℕ → ℕ
entry_place i = 4 + 16 * i

-- entry i: offset (4 bytes), rows (2), columns (2), alternative (1), choice (1), positions (1)
unfoldable pub entry_of : List ℕ → ℕ → Entry
entry_of file i = record {
  offset = little_endian 4 file (entry_place i);
  rows = little_endian 2 file (entry_place i + 4);
  columns = little_endian 2 file (entry_place i + 6);
  alternative = get_or file (entry_place i + 8) 0;
  choice = get_or file (entry_place i + 9) 0;
  positions = get_or file (entry_place i + 10) 0;
}

-- its five spare bytes, as one number
abbrev pub spare_of : List ℕ → ℕ → ℕ
spare_of file i = little_endian 5 file (entry_place i + 11)

-- a body: n positions where the positions byte is 1, then its numbers: n residuals, and the k columns of n, column after column
abbrev pub position_count : Entry → ℕ
position_count e = e.rows * e.positions

abbrev pub body_count : Entry → ℕ
body_count e = e.rows * (e.columns + 1)

-- where it begins, where its numbers begin, and where it ends, at 8 bytes a position and a number
abbrev pub body_start : Entry → ℕ
body_start e = e.offset

abbrev pub numbers_start : Entry → ℕ
numbers_start e = body_start e + 8 * position_count e

abbrev pub body_end : Entry → ℕ
body_end e = numbers_start e + 8 * body_count e

-- position t of a body: a whole number below 2^64
abbrev pub position_of : List ℕ → Entry → ℕ → ℕ
position_of file e t = little_endian 8 file (body_start e + 8 * t)

-- number t of a body, and `count` of them from number `first` on
abbrev pub body_number : List ℕ → Entry → ℕ → Float
body_number file e t = float_at file (numbers_start e + 8 * t)

abbrev pub numbers_of : List ℕ → Entry → ℕ → ℕ → List Float
numbers_of file e first count = table (λ t. body_number file e (first + t)) count

-- the residuals, and the columns as one run
abbrev pub residuals_of : List ℕ → Entry → List Float
residuals_of file e = numbers_of file e 0 e.rows

abbrev pub columns_of : List ℕ → Entry → List Float
columns_of file e = numbers_of file e e.rows (e.rows * e.columns)

-- `count` numbers of a body can be put at the front of a run: the body ends within the file, and the run is long enough
abbrev pub readable : List ℕ → Entry → ℕ → List Float → Bool
readable file e count run = leb (body_end e) (length file) && leb count (length run)

-- then all are read, from number `first` on, and the rest of the run stays; else none, and the run stays as it was
abbrev pub read_count : List ℕ → Entry → ℕ → List Float → ℕ
read_count file e count run = cond (readable file e count run) count 0

abbrev pub read_into : List ℕ → Entry → ℕ → ℕ → List Float → List Float
read_into file e first count run = cond (readable file e count run) (numbers_of file e first count ++ drop count run) run

-- n counts elements at the front of l. The second part follows from the first; both are stated so that a caller's `&run[..n]` needs no proof
abbrev pub Counts : {A : Type 0} → ℕ → List A → Type 0
Counts n l = (n ≤ length l) × (n ≡ length (take n l))
