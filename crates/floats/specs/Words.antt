-- The words of binary64 arithmetic that every crate shares: the four rounded operations, numbers by their bit patterns, and number t of a run.
-- Each operation is IEEE 754's, rounded once to nearest, ties to even (lib.Ieee). Definitions only. Assumes nothing.
use Rattle.std.specs.Prelude.{ℕ, List, get_or, Float}
use Rattle.std.specs.Float.{nan, binary64}
use Rattle.std.specs.Float.Ieee.{add, sub, mul, div, neg, of_bits}

infixl 75 ◌⊕◌
infixl 75 ◌⊖◌
infixl 77 ◌⊗◌
infixl 77 ◌⊘◌
infixl 90 ◌‼◌
-- x + y, x - y, x * y and x / y, each rounded once
abbrev pub ◌⊕◌ : Float → Float → Float
x ⊕ y = add binary64 x y

abbrev pub ◌⊖◌ : Float → Float → Float
x ⊖ y = sub binary64 x y

abbrev pub ◌⊗◌ : Float → Float → Float
x ⊗ y = mul binary64 x y

abbrev pub ◌⊘◌ : Float → Float → Float
x ⊘ y = div binary64 x y

-- the number with this bit pattern
abbrev pub float : ℕ → Float
float b = of_bits binary64 b

-- +0, -0, 1 and 2
abbrev pub plus_zero : Float
plus_zero = float 0

abbrev pub minus_zero : Float
minus_zero = neg plus_zero

abbrev pub one : Float
one = float 0x3ff0000000000000

abbrev pub two : Float
two = float 0x4000000000000000

-- number t of a run, counted from 0
abbrev pub ◌‼◌ : List Float → ℕ → Float
xs ‼ t = get_or xs t nan

-- one product
abbrev pub square_of : Float → Float
square_of x = x ⊗ x
