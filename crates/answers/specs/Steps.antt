-- How the lines of a file's sheets are put, entry by entry. Definitions only. Assumes nothing.
use Rattle.std.specs.Prelude.{ℕ, ◌*◌, ◌≤◌, List, length}
use Rattle.floats.specs.Tables.{table}
use Rattle.sheet.specs.Contents.{most_numbers, entry_of, body_end}
use Rattle.sheet.specs.declared.file.Entry.{Entry}
use Rattle.answers.specs.Answer.{lent_rows, lines_from}

-- an entry's body lies within the file, and the runs hold its numbers
abbrev pub Within : List ℕ → Entry → Type 0
Within file e = (body_end e ≤ length file) × (e.rows ≤ most_numbers) × (e.rows * e.columns ≤ most_numbers)

-- the lines of a file's first k entries
abbrev pub lines_to : List ℕ → ℕ → List ℕ
lines_to file k = lines_from lent_rows file 0 (table (entry_of file) k)
