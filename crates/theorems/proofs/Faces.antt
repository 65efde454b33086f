-- Faces on one layout, worked out by the definitions: what they pass on is the same, and the other fields do tell. Assumes nothing.
use mathlib.Core.Path.{◌≡◌, refl}
use mathlib.Core.Bool.{true}
use mathlib.Core.List.{List, [], ◌∷◌}
use lib.Ieee.{Float, sub, mul, div, le, is_nan, of_bits}
use Rattle.floats.specs.Words.{plus_zero, one}
use Rattle.floats.specs.Sums.{sum_of}
use Rattle.floats.specs.Search.{first_bad}
use Rattle.floats.specs.Signs.{minus, abs_of}
use Rattle.floats.specs.Turns.{turns}
use Rattle.floats.specs.Tables.{table}
use Rattle.roots.specs.Root.{sqrt_of}
use Rattle.autocorrelation.specs.Statistic.{durbin_watson_answer}
use Rattle.design.specs.Matrix.{row, matrix, every}
use Rattle.design.specs.Factor.{left_to, factor_of, fails_at, pivots_of}
use Rattle.design.specs.Inverse.{lower_inverse, inverse_from}
use Rattle.outcome.specs.declared.Alternative.TheVariants.{Greater}
use Rattle.projection.specs.Projection.{weight, hat, residual, product}
use Rattle.tridiagonal.specs.Reflection.{column_of, reflected}
use Rattle.ql.specs.Ql.{settled, ql_of, stuck_of}
use Rattle.ql.specs.Rotation.{negligible}
use Rattle.ql.specs.Sweep.{block_end}
use Rattle.eigen.specs.Kept.{kept_of}
use Rattle.eigen.specs.Spectrum.{bands_worked, delivered_of, delivered_numbers, spectrum_of, kept_numbers}
use Rattle.weights.specs.Weights.{weights_of}
use Rattle.imhof.specs.Imhof.{clamp_of, imhof_of}
use Rattle.dwtest.specs.Verdict.{exact_path}
use Rattle.dwtest.specs.Test.{test_with}
use Rattle.outcome.specs.declared.Choice.TheVariants.{Exact}
use Rattle.theorems.specs.Sheets.{Sheet, sheet, outcome_of, minus_one}
use Rattle.theorems.specs.Figures.{Figures, passed_on, AcceptedExact, OneLayout}

-- residuals on a column 0, 1, 0, asked exactly, with room enough
abbrev face : List Float → Sheet
face e = sheet e (plus_zero ∷ one ∷ plus_zero ∷ []) 1 Greater Exact

-- 1, -1, 1 and 1, 1, 0
abbrev rough : Sheet
rough = face (one ∷ minus_one ∷ one ∷ [])

abbrev smooth : Sheet
smooth = face (one ∷ one ∷ plus_zero ∷ [])

-- the eigenvalues 1 and 1, and no sweep
abbrev figures : Figures
figures = record { eigenvalues = one ∷ one ∷ []; kept = 2; sweeps = 0; settled_sweeps = true }

-- both are calls that the laws speak of, of one layout; their figures are the same, and p is 1 for the first and 0 for the second
pub others-differ : OneLayout rough smooth × AcceptedExact rough × AcceptedExact smooth
    × (passed_on rough ≡ figures) × (passed_on smooth ≡ figures)
    × ((outcome_of rough).p ≡ one) × ((outcome_of smooth).p ≡ plus_zero)
unfolding test_with exact_path durbin_watson_answer first_bad pivots_of fails_at factor_of left_to lower_inverse inverse_from matrix row table every turns sum_of sub mul div le is_nan sqrt_of of_bits minus abs_of weight hat residual product column_of reflected settled ql_of stuck_of negligible block_end kept_of bands_worked delivered_of delivered_numbers spectrum_of kept_numbers weights_of clamp_of imhof_of
others-differ = (record { columns = refl; count = refl; alternative = refl; choice = refl; matrix_room = refl; part_room = refl }, record { accepted = refl; due = refl }, record { accepted = refl; due = refl }, refl, refl, refl, refl)
