-- The normal law of the Durbin-Watson statistic, with the exact null mean and variance by traces (Durbin and Watson, 1971, as in R's dwtest).
-- The columns of X are one run x of n rows each. Every operation is rounded, in this order; sums run first to last, from -0.
-- Definitions only. Assumes nothing.
use Rattle.std.specs.Prelude.{ℕ, ◌+◌, ◌*◌, Bool, ◌&&◌, cond, List, ltb, pos, Float, Result, Ok, Err}
use Rattle.std.specs.Float.{binary64}
use Rattle.std.specs.Float.Ieee.{lt, of_int}
use Rattle.std.specs.Float.Ieee.Scale.{finite}
use Rattle.floats.specs.Words.{◌⊕◌, ◌⊖◌, ◌⊗◌, ◌⊘◌, ◌‼◌, float, plus_zero, one, two}
use Rattle.floats.specs.Sums.{sum_of}
use Rattle.elementary.specs.declared.NormalLaw.{NormalLaw}
use Rattle.design.specs.Matrix.{Matrix, matrix, product_of, trace_of}
use Rattle.design.specs.Inverse.{inverse_of}
use Rattle.design.specs.Difference.{difference_at}
use Rattle.design.specs.declared.LawError.{LawError}
use Rattle.design.specs.declared.LawError.TheVariants.{NotFinite, NotSpread}

-- a count as a number, and 3 and 4
abbrev pub count : ℕ → Float
count n = of_int binary64 (pos n)

abbrev pub three : Float
three = float 0x4008000000000000

abbrev pub four : Float
four = float 0x4010000000000000

-- row t of column j of X, and of A X
abbrev pub column_at : List Float → ℕ → ℕ → ℕ → Float
column_at x n j t = x ‼ (j * n + t)

abbrev pub difference_of : List Float → ℕ → ℕ → ℕ → Float
difference_of x n j t = difference_at (column_at x n j) n t

-- X' A X, and (A X)' (A X)
abbrev pub cross_of : List Float → ℕ → ℕ → Matrix
cross_of x n k = matrix k (λ i j. sum_of n (λ t. column_at x n i t ⊗ difference_of x n j t))

abbrev pub squares_of : List Float → ℕ → ℕ → Matrix
squares_of x n k = matrix k (λ i j. sum_of n (λ t. difference_of x n i t ⊗ difference_of x n j t))

-- the mean p / (n - k), where p = 2 (n - 1) - tr B
abbrev pub mean_of : Float → ℕ → ℕ → Float
mean_of p n k = p ⊘ (count n ⊖ count k)

-- the variance 2 / ((n - k) (n - k + 2)) (q - p mean), where q = 2 (3n - 4) - 2 tr C + tr B²
abbrev pub variance_of : Float → Float → ℕ → ℕ → Float
variance_of p q n k = two ⊘ ((count n ⊖ count k) ⊗ (count n ⊖ count k ⊕ two)) ⊗ (q ⊖ p ⊗ mean_of p n k)

-- the law from the traces of B, C and B²
abbrev pub law_by : Float → Float → Float → ℕ → ℕ → NormalLaw
law_by b c b² n k =
    let p = two ⊗ (count n ⊖ one) ⊖ b in
    let q = two ⊗ (three ⊗ count n ⊖ four) ⊖ two ⊗ c ⊕ b² in
    record { mean = mean_of p n k; variance = variance_of p q n k }

-- the law of the columns, whatever is taken for (X'X)^-1: B is X'AX (X'X)^-1, and C is (AX)'(AX) (X'X)^-1
unfoldable pub law_from : List Float → ℕ → ℕ → Matrix → NormalLaw
law_from x n k inverse =
    let b = product_of k (cross_of x n k) inverse in
    law_by (trace_of k b) (trace_of k (product_of k (squares_of x n k) inverse)) (trace_of k (product_of k b b)) n k

-- the law of the columns
abbrev pub law_of : List Float → ℕ → ℕ → NormalLaw
law_of x n k = law_from x n k (inverse_of x n k)

-- whether the law serves: its mean and variance are finite, and its variance is above 0
abbrev pub law_answer : NormalLaw → Result NormalLaw LawError
law_answer law =
    cond (finite law.mean && finite law.variance) (cond (lt plus_zero law.variance) (Ok law) (Err NotSpread)) (Err NotFinite)

-- with fewer rows no law is worked out
abbrev pub least_for_law : ℕ
least_for_law = 5

abbrev pub too_few_for_law : ℕ → Bool
too_few_for_law n = ltb n least_for_law
