-- Worked matrices, by computation: a reader can run what he is asked to believe. The bits are those of the Rust on the same matrices. Assumes nothing.
use Prim.Native.Nat.{ℕ}
use mathlib.Core.Path.{◌≡◌, refl}
use mathlib.Core.List.{List, [], ◌∷◌, map}
use lib.Ieee.{Float, add, sub, mul, div, neg, lt, eq, of_bits}
use Rattle.floats.specs.Words.{float}
use Rattle.floats.specs.Sums.{sum_of}
use Rattle.floats.specs.Tables.{table}
use Rattle.floats.specs.Turns.{turns}
use Rattle.roots.specs.Root.{sqrt_of}
use Rattle.tridiagonal.specs.Reflection.{column_of, image_of, correction_of, reflected_entry, reflected, tridiagonal_of}
use Rattle.tridiagonal.specs.Bands.{diagonal_of, couplings_of}

abbrev numbers : List ℕ → List Float
numbers bits = map float bits

-- 2 3 4 / 3 1 0 / 4 0 5: the column 3, 4 has norm 5, and alpha is -5
pub three-rows : tridiagonal_of 3 (numbers (
    0x4000000000000000 ∷ 0x4008000000000000 ∷ 0x4010000000000000 ∷
    0x4008000000000000 ∷ 0x3ff0000000000000 ∷ 0x0000000000000000 ∷
    0x4010000000000000 ∷ 0x0000000000000000 ∷ 0x4014000000000000 ∷ []))
    ≡ numbers (
    0x4000000000000000 ∷ 0xc014000000000000 ∷ 0x0000000000000000 ∷
    0xc014000000000000 ∷ 0x400c7ae147ae147a ∷ 0xbffeb851eb851eb9 ∷
    0x0000000000000000 ∷ 0xbffeb851eb851eb9 ∷ 0x4003851eb851eb85 ∷ [])
unfolding turns reflected column_of image_of correction_of reflected_entry table sum_of sqrt_of add sub mul div neg lt eq of_bits
three-rows = refl

-- 4 -1 2 2 / -1 3 0 1 / 2 0 5 -2 / 2 1 -2 6: two reflections, then the bands
abbrev four : List Float
four = numbers (
    0x4010000000000000 ∷ 0xbff0000000000000 ∷ 0x4000000000000000 ∷ 0x4000000000000000 ∷
    0xbff0000000000000 ∷ 0x4008000000000000 ∷ 0x0000000000000000 ∷ 0x3ff0000000000000 ∷
    0x4000000000000000 ∷ 0x0000000000000000 ∷ 0x4014000000000000 ∷ 0xc000000000000000 ∷
    0x4000000000000000 ∷ 0x3ff0000000000000 ∷ 0xc000000000000000 ∷ 0x4018000000000000 ∷ [])

pub four-rows : (diagonal_of 4 (tridiagonal_of 4 four) ≡ numbers (0x4010000000000000 ∷ 0x4008000000000002 ∷ 0x401199999999999d ∷ 0x401a666666666665 ∷ []))
    × (couplings_of 4 (tridiagonal_of 4 four) ≡ numbers (0x4008000000000000 ∷ 0xbfe7d9f4cf75462e ∷ 0xbffddddddddddddf ∷ 0x0000000000000000 ∷ []))
unfolding turns reflected column_of image_of correction_of reflected_entry table sum_of sqrt_of add sub mul div neg lt eq of_bits
four-rows = (refl, refl)
