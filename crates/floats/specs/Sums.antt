-- Sums, first to last, each addition rounded. An empty sum is -0, where an iterator's sum of the oracle's Rust library starts. Definitions only. Assumes nothing.
use Rattle.std.specs.Prelude.{ℕ, zero, suc, ◌+◌, List, length, Float}
use Rattle.floats.specs.Words.{◌⊕◌, ◌⊗◌, ◌‼◌, minus_zero, square_of}

-- term 0, plus term 1, .., plus term n - 1
unfoldable pub sum_of : ℕ → (ℕ → Float) → Float
sum_of zero term = minus_zero
sum_of (suc t) term = sum_of t term ⊕ term t

-- the numbers of a run; their squares
abbrev pub sum_run : List Float → Float
sum_run xs = sum_of (length xs) (λ t. xs ‼ t)

abbrev pub sum_squares : List Float → Float
sum_squares xs = sum_of (length xs) (λ t. square_of (xs ‼ t))

-- the products of n numbers of xs from a on with n numbers of ys from b on
abbrev pub sum_products : List Float → ℕ → List Float → ℕ → ℕ → Float
sum_products xs a ys b n = sum_of n (λ t. xs ‼ (a + t) ⊗ ys ‼ (b + t))
