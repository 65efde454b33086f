-- Householder's reflections, which make a symmetric matrix tridiagonal (Householder 1958). Reflection c clears column c below the subdiagonal, and row c beside it:
-- S, the block of rows and columns c + 1 on, becomes H S H with H = I - 2 v v' / v'v. Number t of a vector belongs to row c + 1 + t.
-- Sums run first to last from -0, each operation rounded once. Definitions only. Assumes nothing.
use Rattle.std.specs.Prelude.{ℕ, ◌+◌, ◌-◌, ◌&&◌, cond, List, eqb, ltb, length, set, Float}
use Rattle.std.specs.Float.Ieee.{neg, lt, eq}
use Rattle.floats.specs.Words.{◌⊕◌, ◌⊖◌, ◌⊗◌, ◌⊘◌, ◌‼◌, plus_zero, two}
use Rattle.floats.specs.Sums.{sum_of, sum_squares}
use Rattle.floats.specs.Tables.{table, square}
use Rattle.floats.specs.Turns.{turns}
use Rattle.roots.specs.Root.{sqrt_of}
use Rattle.floats.specs.Matrix.{entry}

-- how many rows stand below row c
abbrev pub below : ℕ → ℕ → ℕ
below n c = n - (c + 1)

-- column c below the diagonal
unfoldable pub column_of : ℕ → ℕ → List Float → List Float
column_of n c a = table (λ t. entry n a (c + 1 + t) c) (below n c)

-- the norm of a column
abbrev pub norm_of : List Float → Float
norm_of x = sqrt_of (sum_squares x)

-- alpha, what takes a column's place: its norm, and minus that where the column's first number is above 0
abbrev pub alpha_of : List Float → Float
alpha_of x = let norm = norm_of x in cond (lt plus_zero (x ‼ 0)) (neg norm) norm

-- v, what a column and alpha differ by
abbrev pub normal_of : List Float → List Float
normal_of x = set x 0 (x ‼ 0 ⊖ alpha_of x)

-- S v
unfoldable pub image_of : ℕ → ℕ → List Float → List Float → List Float
image_of n c a v = table (λ i. sum_of (below n c) (λ j. entry n a (c + 1 + i) (c + 1 + j) ⊗ v ‼ j)) (below n c)

-- q = p - (v'p / v'v) v, where p = 2 S v / v'v, from v, S v and v'v
unfoldable pub correction_of : List Float → List Float → Float → List Float
correction_of v s vv =
    let p = table (λ i. two ⊗ s ‼ i ⊘ vv) (length v) in
    let k = sum_of (length v) (λ t. v ‼ t ⊗ p ‼ t) ⊘ vv in
    table (λ i. p ‼ i ⊖ k ⊗ v ‼ i) (length v)

-- what stands beside the diagonal in row c and in column c, by place: alpha, and then zeros
abbrev pub edge : ℕ → Float → ℕ → Float
edge c alpha k = cond (eqb k (c + 1)) alpha plus_zero

-- entry (i, j) of S - (v q' + q v')
abbrev pub block : ℕ → ℕ → List Float → List Float → List Float → ℕ → ℕ → Float
block n c a v q i j =
    let r = i - (c + 1) in
    let t = j - (c + 1) in
    entry n a i j ⊖ (v ‼ r ⊗ q ‼ t ⊕ q ‼ r ⊗ v ‼ t)

-- entry (i, j) after reflection c: column c below the diagonal, row c beyond it, the block of both, and else as it was
unfoldable pub reflected_entry : ℕ → ℕ → List Float → Float → List Float → List Float → ℕ → ℕ → Float
reflected_entry n c a alpha v q i j =
    cond (eqb j c && ltb c i) (edge c alpha i)
    (cond (eqb i c && ltb c j) (edge c alpha j)
    (cond (ltb c i && ltb c j) (block n c a v q i j) (entry n a i j)))

-- reflection c. A column whose norm is 0 is left, and so is one with v'v = 0
unfoldable pub reflected : ℕ → ℕ → List Float → List Float
reflected n c a =
    let x = column_of n c a in
    let v = normal_of x in
    let vv = sum_squares v in
    let q = correction_of v (image_of n c a v) vv in
    cond (eq (norm_of x) plus_zero) a (cond (eq vv plus_zero) a (square (reflected_entry n c a (alpha_of x) v q) n))

-- the reflections of columns 0, 1, .., n - 3
abbrev pub tridiagonal_of : ℕ → List Float → List Float
tridiagonal_of n a = turns (n - 2) (reflected n) a
