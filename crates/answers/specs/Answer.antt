-- THE ANSWER to a sheet file, as bytes (document 01, "The sheet program"): the line of the file's refusal, or a line for each of its sheets, in order. Definitions only. Assumes nothing.
use Rattle.std.specs.Prelude.{ℕ, ◌+◌, ◌*◌, List, [], ◌∷◌, ◌++◌}
use Rattle.outcome.specs.Codes.{alternative_of, choice_of}
use Rattle.outcome.specs.Rooms.{room_of, part_room}
use Rattle.outcome.specs.declared.Outcome.{Outcome}
use Rattle.dwtest.specs.Test.{test_of}
use Rattle.sheet.specs.Contents.{most_entries, residuals_of, columns_of}
use Rattle.sheet.specs.Reading.{Reading, sheets, refused, read_file}
use Rattle.sheet.specs.declared.file.Entry.{Entry}
use Rattle.lines.specs.Lines.{line_of}
use Rattle.lines.specs.Fields.{fields_of, longest, file_line_of}

-- the rooms that are lent: matrix room for so many rows, and full part room. An exact sheet with more rows meets refusal 12
abbrev pub lent_rows : ℕ
lent_rows = 64

-- of a file, with matrix room for `rows` rows
module _ (rows : ℕ) (file : List ℕ) where
  -- the result of an entry's sheet
  abbrev pub result_of : Entry → Outcome
  result_of e = test_of (residuals_of file e) (columns_of file e) e.columns (alternative_of e.alternative) (choice_of e.choice) (room_of rows) part_room

  -- the line of sheet i, whose entry is e
  abbrev pub sheet_line : ℕ → Entry → List ℕ
  sheet_line i e = line_of (fields_of i (result_of e))

  -- the lines of some entries, the first of which is entry i, one behind the other
  unfoldable pub lines_from : ℕ → List Entry → List ℕ
  lines_from i [] = []
  lines_from i (e ∷ es) = sheet_line i e ++ lines_from (i + 1) es

  -- by what the file is read into
  abbrev pub answer_by : Reading → List ℕ
  answer_by (sheets es) = lines_from 0 es
  answer_by (refused f) = file_line_of f

-- THE ANSWER
abbrev pub answer_to : List ℕ → List ℕ
answer_to file = answer_by lent_rows file (read_file file)

-- no answer is longer: as many lines as a file has entries at most, each of the longest
abbrev pub most_bytes : ℕ
most_bytes = most_entries * longest
