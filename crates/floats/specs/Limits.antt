-- The largest sheet, and the room that a matrix of its rows takes. Of a symmetric matrix the lower triangle is kept. Definitions only. Assumes nothing.
use Rattle.std.specs.Prelude.{ℕ, ◌+◌, ◌*◌, ◌≤◌, ◌≡◌, List, length, Float}
use Rattle.floats.specs.Tables.{triangle}

-- src/limits.rt's MAX_ROWS and MAX_COLUMNS
abbrev pub max_rows : ℕ
max_rows = 256

abbrev pub max_columns : ℕ
max_columns = 8

-- a holds a matrix of n rows
abbrev pub Square : ℕ → List Float → Type 0
Square n a = (length a ≡ triangle n) × (n ≤ max_rows)

-- the room holds two of them, and may go on
abbrev pub Squares : ℕ → List Float → Type 0
Squares n room = (triangle n + triangle n ≤ length room) × (n ≤ max_rows)

-- how many numbers the two are
abbrev pub matrix_room : ℕ → ℕ
matrix_room n = n * (n + 1)
