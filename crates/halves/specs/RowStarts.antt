-- Where rows of a lower triangle begin that stand one after another. Definitions only. Assumes nothing.
use Rattle.std.specs.Prelude.{ℕ, zero, suc, ◌+◌, ◌≤◌, ◌<◌}

-- where row s of a lower triangle begins, counted from a row that is `stride` numbers long: each row is one number longer than the row before
unfoldable pub row_start : ℕ → ℕ → ℕ
row_start stride zero = 0
row_start stride (suc s) = row_start stride s + (stride + s)

-- the first m numbers of k such rows end within l
abbrev pub ReachRows : ℕ → ℕ → ℕ → ℕ → Type 0
ReachRows k stride m l = (s : ℕ) → s < k → row_start stride s + m ≤ l

-- and so do the first number of row 0, the first two of row 1, .., the first k of row k - 1
abbrev pub ReachCorner : ℕ → ℕ → ℕ → Type 0
ReachCorner k stride l = (s : ℕ) → s < k → row_start stride s + (s + 1) ≤ l
