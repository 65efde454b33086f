-- Any two outcomes that a promise of this crate allows are one and the same: each promise says what its result equals. Assumes nothing.
use mathlib.Core.Path.{◌≡◌, sym, ◌∙◌}
use mathlib.Core.Bool.{Bool}
use mathlib.Core.List.{List}
use Prim.Native.Nat.{ℕ}
use lib.Ieee.{Float}
use Rattle.columns.specs.Sheet.{size_of, columns_of, too_few_rows}
use Rattle.std.specs.Prelude.{Result}
use Rattle.columns.specs.declared.SheetSize.{SheetSize}
use Rattle.columns.specs.declared.SizeError.{SizeError}
use Rattle.columns.specs.declared.ColumnsError.{ColumnsError}

pub both : {A : Type 0} {r s t : A} → r ≡ t → s ≡ t → r ≡ s
both p q = p ∙ sym q

pub size-single : (n k : ℕ) (r s : Result SheetSize SizeError) → r ≡ size_of n k → s ≡ size_of n k → r ≡ s
size-single n k r s = both

pub columns-single : (x : List Float) (n k : ℕ) (r s : Result SheetSize ColumnsError) → r ≡ columns_of x n k → s ≡ columns_of x n k → r ≡ s
columns-single x n k r s = both

pub rows-single : (n k : ℕ) (r s : Bool) → r ≡ too_few_rows n k → s ≡ too_few_rows n k → r ≡ s
rows-single n k r s = both
