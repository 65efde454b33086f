-- Document 01's whole case, from its bytes to its three lines, and damaged copies, worked out by the definitions themselves. Assumes nothing.
use mathlib.Core.Path.{◌≡◌, refl}
use mathlib.Core.List.{[], ◌∷◌, map}
use lib.ListN.{take, set}
use lib.Ieee.{add, sub, mul, div, lt, le, is_nan, of_bits, to_bits}
use Rattle.floats.specs.Bits.{little_endian}
use Rattle.floats.specs.Sums.{sum_of}
use Rattle.floats.specs.Search.{first_bad}
use Rattle.floats.specs.Turns.{turns}
use Rattle.floats.specs.Tables.{table}
use Rattle.roots.specs.Root.{sqrt_of}
use Rattle.autocorrelation.specs.Statistic.{durbin_watson_answer}
use Rattle.design.specs.Matrix.{row, matrix, every}
use Rattle.design.specs.Factor.{left_to, factor_of, fails_at, pivots_of}
use Rattle.design.specs.Inverse.{lower_inverse, inverse_from}
use Rattle.outcome.specs.Refusals.{first_of}
use Rattle.dwtest.specs.Test.{design_of, test_with}
use Rattle.sheet.specs.Contents.{entry_of}
use Rattle.sheet.specs.Reading.{due_at, not_rising, meets, refusals_from, first_met, read_file}
use Rattle.sheet.proofs.Examples.{whole_case}
use Rattle.lines.specs.Lines.{text, digits, width_to, line_of}
use Rattle.lines.specs.Fields.{file_line_of}
use Rattle.answers.specs.Answer.{lines_from, answer_to}

pub whole-answer : answer_to whole_case ≡ text "0 0 0 4000000000000000 3ff0000000000000 1 0 0 0 0 0 1\n1 0 0 4008000000000000 3ff0000000000000 4 0 0 0 0 0 1\n2 6 0 0000000000000000 0000000000000000 0 0 0 0 0 0 0\n"
unfolding whole_case read_file first_met not_rising meets refusals_from due_at entry_of little_endian table lines_from test_with design_of first_of durbin_watson_answer first_bad pivots_of fails_at factor_of left_to lower_inverse inverse_from matrix row every turns sum_of add sub mul div le lt is_nan sqrt_of of_bits line_of digits width_to text to_bits
whole-answer = refl

pub damaged-answers : map answer_to (take 3 whole_case ∷ set whole_case 0 0 ∷ set whole_case 29 3 ∷ []) ≡ map text ("file 1 0\n" ∷ "file 2 0\n" ∷ "file 4 1\n" ∷ [])
unfolding whole_case read_file first_met not_rising meets refusals_from due_at entry_of little_endian table file_line_of line_of digits width_to text
damaged-answers = refl
