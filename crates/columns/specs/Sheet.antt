-- The size of a sheet and the checks of its columns, in the order tried; and whether its rows are too few, which is asked after the statistic.
-- The k columns of n rows are one run x, column after column: row t of column j is x ‼ (j * n + t).
-- Definitions only. Assumes nothing.
use Rattle.std.specs.Prelude.{◌≡◌, ℕ, ◌*◌, ◌≤◌, Bool, cond, List, ltb, leb, eqb, length, Float, Option, Some, None, Result, Ok, Err}
use Rattle.floats.specs.Limits.{max_rows, max_columns}
use Rattle.floats.specs.Search.{first_bad}
use Rattle.columns.specs.declared.SheetSize.{SheetSize}
use Rattle.columns.specs.declared.SizeError.{SizeError}
use Rattle.columns.specs.declared.SizeError.TheVariants.{TooManyRows, TooManyColumns}
use Rattle.columns.specs.declared.ColumnsError.{ColumnsError}
use Rattle.columns.specs.declared.ColumnsError.TheVariants.{NoColumn, RowsOver, ColumnsOver, WrongLength, NotFinite}

-- the limit of rows, then that of columns
abbrev pub size_of : ℕ → ℕ → Result SheetSize SizeError
size_of n k = cond (ltb max_rows n) (Err TooManyRows) (cond (ltb max_columns k) (Err TooManyColumns) (Ok (record { rows = n; columns = k })))

-- every number is finite, or the first that is not
abbrev pub numbers_by : SheetSize → Option ℕ → Result SheetSize ColumnsError
numbers_by size (Some t) = Err (NotFinite t)
numbers_by size None = Ok size

-- the run has a number for each row of each column
abbrev pub run_of : List Float → SheetSize → Result SheetSize ColumnsError
run_of x size = cond (eqb (length x) (size.columns * size.rows)) (numbers_by size (first_bad x)) (Err WrongLength)

-- what is wrong with columns whose size does not fit
abbrev pub over : SizeError → ColumnsError
over TooManyRows = RowsOver
over TooManyColumns = ColumnsOver

-- a size that does not fit, else the run
abbrev pub run_by : Result SheetSize SizeError → List Float → Result SheetSize ColumnsError
run_by (Err why) x = Err (over why)
run_by (Ok size) x = run_of x size

-- what the columns are found to be: there is a column, the size fits, the length is right, every number is finite
abbrev pub columns_of : List Float → ℕ → ℕ → Result SheetSize ColumnsError
columns_of x n k = cond (eqb k 0) (Err NoColumn) (run_by (size_of n k) x)

-- columns of a size within the limits
abbrev pub Design : SheetSize → List Float → Type 0
Design size x = (size.rows ≤ max_rows) × (size.columns ≤ max_columns) × (size.columns * size.rows ≡ length x)

-- no more rows than columns
abbrev pub too_few_rows : ℕ → ℕ → Bool
too_few_rows n k = leb n k
