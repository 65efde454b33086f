-- The refusals of document 01: the reason why the test refuses a sheet, and its number and place. Definitions only. Assumes nothing.
use Rattle.std.specs.Prelude.{ℕ, Bool, cond, List, [], ◌∷◌, ltb, eqb, Float, Result, Ok, Err}
use Rattle.autocorrelation.specs.declared.StatisticError.{StatisticError}
use Rattle.autocorrelation.specs.declared.StatisticError.TheVariants as statistic
use Rattle.columns.specs.Sheet.{too_few_rows}
use Rattle.columns.specs.declared.SheetSize.{SheetSize}
use Rattle.columns.specs.declared.ColumnsError.{ColumnsError}
use Rattle.columns.specs.declared.ColumnsError.TheVariants as columns
use Rattle.design.specs.Matrix.{Matrix, finite_matrix}
use Rattle.design.specs.declared.FailedPivot.{FailedPivot}
use Rattle.design.specs.declared.LawError.{LawError}
use Rattle.design.specs.declared.LawError.TheVariants as law
use Rattle.elementary.specs.declared.NormalLaw.{NormalLaw}
use Rattle.eigen.specs.declared.SpectrumError.{SpectrumError}
use Rattle.eigen.specs.declared.SpectrumError.TheVariants.{MatrixNotFinite, NumberNotFinite}
use Rattle.imhof.specs.Quadrature.{Quadrature}
use Rattle.imhof.specs.declared.Integral as imhof
use Rattle.records.specs.declared.RecordsError.{RecordsError}
use Rattle.records.specs.declared.RecordsError.TheVariants as records
use Rattle.outcome.specs.Rooms.{part_room}
use Rattle.outcome.specs.declared.Refusal.{Refusal}
use Rattle.outcome.specs.declared.refusals.Stage.TheVariants.{Inverse, Product, Eigenvalues, Integral, Law}
use Rattle.outcome.specs.declared.refusals.TestError.{TestError}
use Rattle.outcome.specs.declared.refusals.TestError.TheVariants.{Columns, Statistic, FewRows, Pivot, MatrixRoom, PartRoom, NotFinite, NotSpread}

-- no refusal; refusal number i at place j. It passes where the number is 0
abbrev pub passed : Refusal
passed = record { number = 0; place = 0 }

abbrev pub refusal : ℕ → ℕ → Refusal
refusal i j = record { number = i; place = j }

abbrev pub passes : Refusal → Bool
passes r = eqb r.number 0

-- the first refusal of a list, in its order
unfoldable pub first_of : List Refusal → Refusal
first_of [] = passed
first_of (r ∷ rest) = cond (passes r) (first_of rest) r

-- 12, the room lent is too small: place 1 the matrix room, 2 the part room. 13, a number is not finite: place 1 the inverse, 2 the product M A M, 3 the
-- eigenvalues, 4 the integral, 5 the law. 14, the law has no spread
abbrev pub no_matrix : Refusal
no_matrix = refusal 12 1

abbrev pub no_parts : Refusal
no_parts = refusal 12 2

abbrev pub not_finite : ℕ → Refusal
not_finite stage = refusal 13 stage

abbrev pub not_spread : Refusal
not_spread = refusal 14 0

-- THE TABLE, reason by reason
abbrev pub refusal_of : TestError → Refusal
refusal_of (Columns columns.NoColumn) = refusal 1 0
refusal_of (Columns columns.RowsOver) = refusal 2 0
refusal_of (Columns columns.ColumnsOver) = refusal 2 1
refusal_of (Columns columns.WrongLength) = refusal 3 0
refusal_of (Columns (columns.NotFinite t)) = refusal 4 t
refusal_of (Statistic statistic.Empty) = refusal 5 0
refusal_of (Statistic statistic.Single) = refusal 6 0
refusal_of (Statistic (statistic.NotFinite t)) = refusal 7 t
refusal_of (Statistic statistic.ZeroSum) = refusal 8 0
refusal_of (Statistic statistic.Overflow) = refusal 9 0
refusal_of FewRows = refusal 10 0
refusal_of (Pivot failed) = refusal 11 failed.0
refusal_of MatrixRoom = no_matrix
refusal_of PartRoom = no_parts
refusal_of (NotFinite Inverse) = not_finite 1
refusal_of (NotFinite Product) = not_finite 2
refusal_of (NotFinite Eigenvalues) = not_finite 3
refusal_of (NotFinite Integral) = not_finite 4
refusal_of (NotFinite Law) = not_finite 5
refusal_of NotSpread = not_spread

-- the same of what a step answers
abbrev pub refusal_in : {A : Type 0} → Result A TestError → Refusal
refusal_in (Ok found) = passed
refusal_in (Err why) = refusal_of why

-- ---- step by step
-- 1 to 4: no column, too large, a wrong length, a number that is not finite
abbrev pub columns_refusal : Result SheetSize ColumnsError → Refusal
columns_refusal (Ok size) = passed
columns_refusal (Err why) = refusal_of (Columns why)

-- 5 to 9: no residual, one, one that is not finite, squares that sum to 0, a sum that is not finite
abbrev pub statistic_refusal : Result Float StatisticError → Refusal
statistic_refusal (Ok d) = passed
statistic_refusal (Err why) = refusal_of (Statistic why)

-- 10: no more rows than columns
abbrev pub rows_of : ℕ → ℕ → Result (Unit {0}) TestError
rows_of n k = cond (too_few_rows n k) (Err FewRows) (Ok tt)

abbrev pub rows_refusal : ℕ → ℕ → Refusal
rows_refusal n k = refusal_in (rows_of n k)

-- 11: a pivot fails
abbrev pub pivots_refusal : Result (Unit {0}) FailedPivot → Refusal
pivots_refusal (Ok hold) = passed
pivots_refusal (Err failed) = refusal_of (Pivot failed)

-- 12: of the room lent, the matrix room is below what is wanted, or the part room below what Imhof's step works in
abbrev pub rooms_of : ℕ → ℕ → ℕ → Result (Unit {0}) TestError
rooms_of wanted matrix parts = cond (ltb matrix wanted) (Err MatrixRoom) (cond (ltb parts part_room) (Err PartRoom) (Ok tt))

abbrev pub room_refusal : ℕ → ℕ → ℕ → Refusal
room_refusal wanted matrix parts = refusal_in (rooms_of wanted matrix parts)

-- 13, stage 1: an entry of the inverse of k columns is not finite
abbrev pub inverse_in : ℕ → Matrix → Result Matrix TestError
inverse_in k inverse = cond (finite_matrix k inverse) (Ok inverse) (Err (NotFinite Inverse))

abbrev pub inverse_refusal : ℕ → Matrix → Refusal
inverse_refusal k inverse = refusal_in (inverse_in k inverse)

-- 13, stages 2 and 3
abbrev pub spectrum_error : SpectrumError → TestError
spectrum_error MatrixNotFinite = NotFinite Product
spectrum_error NumberNotFinite = NotFinite Eigenvalues

-- of an integral by itself, and over a lent list of records: 13, stage 4, and 12, place 2
abbrev pub quadrature_refusal : Quadrature → Refusal
quadrature_refusal (Ok i) = passed
quadrature_refusal (Err broken) = refusal_of (NotFinite Integral)

abbrev pub records_error : RecordsError → TestError
records_error records.RoomShort = PartRoom
records_error records.NotFinite = NotFinite Integral

abbrev pub records_refusal : Result imhof.Integral RecordsError → Refusal
records_refusal (Ok i) = passed
records_refusal (Err why) = refusal_of (records_error why)

-- 13, stage 5, and 14
abbrev pub law_error : LawError → TestError
law_error law.NotFinite = NotFinite Law
law_error law.NotSpread = NotSpread

abbrev pub law_refusal : Result NormalLaw LawError → Refusal
law_refusal (Ok l) = passed
law_refusal (Err why) = refusal_of (law_error why)
