-- What a call of the exported function gives: its return value, the result's words and what both rooms hold at exit. e is the run of residuals, x the run
-- of k columns; alternative and choice are codes. Definitions only. Assumes nothing.
use Rattle.std.specs.Prelude.{ℕ, Bool, ◌&&◌, cond, List, eqb, ltb, length, Float, Result, Ok, Err}
use Rattle.outcome.specs.Codes.{alternative_of, choice_of}
use Rattle.outcome.specs.Rooms.{room_of, part_room, cleared_of}
use Rattle.dwtest.specs.Test.{test_of, touched}
use Rattle.lines.specs.Fields.{words_of, word_count}
use Rattle.dwexport.specs.declared.CallError.{CallError}
use Rattle.dwexport.specs.declared.CallError.TheVariants.{Words, Alternative, Choice}

-- 0 where the call is answered; 1 the result's run has not as many words as a result; 2, 3 the code of the alternative, of the choice, is none of 0, 1, 2
abbrev pub status_of : ℕ → ℕ → ℕ → ℕ
status_of words alternative choice = cond (eqb words word_count) (cond (ltb alternative 3) (cond (ltb choice 3) 0 3) 2) 1

-- the same by the reason
abbrev pub error_number : CallError → ℕ
error_number Words = 1
error_number Alternative = 2
error_number Choice = 3

abbrev pub status_in : {A : Type 0} → Result A CallError → ℕ
status_in (Ok asked) = 0
status_in (Err why) = error_number why

module _ (e x : List Float) (k alternative choice : ℕ) (matrix parts : List Float) (result : List ℕ) where
  abbrev pub answered : Bool
  answered = eqb (status_of (length result) alternative choice) 0

  -- the result's words: those of the test's result where the call is answered, else as they were
  abbrev pub result_of : List ℕ
  result_of = cond answered (words_of (test_of e x k (alternative_of alternative) (choice_of choice) (length matrix) (length parts))) result

  -- whether the rooms are used
  abbrev pub rooms_used : Bool
  rooms_used = answered && touched e x k (choice_of choice) (length matrix) (length parts)

  -- the rooms at exit: what the test used is +0, and all else as it was
  abbrev pub matrix_after : List Float
  matrix_after = cleared_of rooms_used (room_of (length e)) matrix

  abbrev pub parts_after : List Float
  parts_after = cleared_of rooms_used part_room parts
