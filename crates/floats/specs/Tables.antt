-- Lists made entry by entry, matrices laid out row after row, and parts of lists. Definitions only. Assumes nothing.
use Rattle.std.specs.Prelude.{ℕ, zero, suc, ◌+◌, ◌-◌, ◌*◌, ◌/◌, ◌%◌, min, max, List, [], ◌∷◌, ◌++◌, take, drop}

-- entry 0, entry 1, .., entry (n - 1)
unfoldable pub table : {A : Type 0} → (ℕ → A) → ℕ → List A
table entry zero = []
table entry (suc k) = table entry k ++ (entry k ∷ [])

-- n rows of n, row after row
abbrev pub square : {A : Type 0} → (ℕ → ℕ → A) → ℕ → List A
square entry n = table (λ p. entry (p / n) (p % n)) (n * n)

-- the symmetric matrix whose entry (i, j) is given for j ≤ i
abbrev pub symmetric : {A : Type 0} → (ℕ → ℕ → A) → ℕ → List A
symmetric entry n = square (λ i j. entry (max i j) (min i j)) n

-- how many entries the first i rows of a lower triangle have, row i having i + 1: where row i begins
unfoldable pub triangle : ℕ → ℕ
triangle i = i * (i + 1) / 2

-- the lower triangle of n rows, row after row: the entries (i, j) with j ≤ i
unfoldable pub half : {A : Type 0} → (ℕ → ℕ → A) → ℕ → List A
half entry zero = []
half entry (suc i) = half entry i ++ table (entry i) (suc i)

-- the numbers of l from a on, up to e; and l with those replaced by as many others
abbrev pub part : {A : Type 0} → ℕ → ℕ → List A → List A
part a e l = take (e - a) (drop a l)

abbrev pub with_part : {A : Type 0} → ℕ → ℕ → List A → List A → List A
with_part a e l ys = take a l ++ (ys ++ drop (e - a) (drop a l))
