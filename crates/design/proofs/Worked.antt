-- Document 01's sheets P11 and P12, by computation. Assumes nothing.
use mathlib.Core.Path.{◌≡◌, refl}
use mathlib.Core.Bool.{true, false}
use mathlib.Core.List.{List, [], ◌∷◌}
use lib.Ieee.{Float, add, sub, mul, div, neg, lt, le, eq, is_nan, of_bits, of_int}
use Rattle.floats.specs.Words.{float, plus_zero, one}
use Rattle.floats.specs.Sums.{sum_of}
use Rattle.floats.specs.Search.{first_where, first_bad}
use Rattle.floats.specs.Turns.{turns}
use Rattle.floats.specs.Tables.{table}
use Rattle.roots.specs.Root.{sqrt_of}
use Rattle.columns.specs.Sheet.{columns_of, too_few_rows}
use Rattle.std.specs.Prelude.{Ok, Err}
use Rattle.design.specs.Matrix.{row, matrix, every, finite_matrix}
use Rattle.design.specs.Factor.{left_to, factor_of, fails_at, pivots_of}
use Rattle.design.specs.Inverse.{lower_inverse, inverse_from, inverse_of}
use Rattle.design.specs.Law.{law_from, law_of, law_answer}
use Rattle.design.specs.declared.LawError.TheVariants.{NotSpread}

-- ---- P11: five rows, the first four unit vectors for columns
abbrev vectors : List Float
vectors =
    one ∷ plus_zero ∷ plus_zero ∷ plus_zero ∷ plus_zero ∷
    plus_zero ∷ one ∷ plus_zero ∷ plus_zero ∷ plus_zero ∷
    plus_zero ∷ plus_zero ∷ one ∷ plus_zero ∷ plus_zero ∷
    plus_zero ∷ plus_zero ∷ plus_zero ∷ one ∷ plus_zero ∷ []

vectors-pass : (columns_of vectors 5 4 ≡ Ok (record { rows = 5; columns = 4 })) × (too_few_rows 5 4 ≡ false) × (pivots_of vectors 5 4 ≡ Ok tt) × (finite_matrix 4 (inverse_of vectors 5 4) ≡ true)
unfolding first_bad pivots_of fails_at factor_of left_to lower_inverse inverse_from matrix row table every turns first_where sum_of add sub mul div neg le lt eq is_nan sqrt_of of_bits
vectors-pass = (refl, refl, refl, refl)

-- its law has mean 1 and variance 0
pub vectors-law : law_of vectors 5 4 ≡ record { mean = one; variance = plus_zero }
unfolding law_from factor_of left_to lower_inverse inverse_from matrix row table turns sum_of add sub mul div neg sqrt_of of_int of_bits
vectors-law = refl

-- so it does not serve
pub vectors-not-spread : law_answer (law_of vectors 5 4) ≡ Err NotSpread
unfolding lt of_bits
vectors-not-spread = rw vectors-law refl

-- ---- P12: two rows, a column of 2^-515 twice
abbrev faint : List Float
faint = float 0x1fc0000000000000 ∷ float 0x1fc0000000000000 ∷ []

faint-pass : (columns_of faint 2 1 ≡ Ok (record { rows = 2; columns = 1 })) × (too_few_rows 2 1 ≡ false) × (pivots_of faint 2 1 ≡ Ok tt)
unfolding first_bad pivots_of fails_at factor_of left_to turns first_where sum_of add sub mul neg le lt eq is_nan of_bits
faint-pass = (refl, refl, refl)

-- its inverse overflows
pub faint-not-finite : finite_matrix 1 (inverse_of faint 2 1) ≡ false
unfolding factor_of left_to lower_inverse inverse_from matrix row table every turns sum_of add sub mul div neg sqrt_of of_bits
faint-not-finite = refl
