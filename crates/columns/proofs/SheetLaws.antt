-- What a size that fits, and columns that are sound, tell of n, k and the run. Each goes by the tests in their order. Assumes nothing.
use mathlib.Core.Path.{◌≡◌, refl, sym, ◌∙◌}
use mathlib.Core.Bool.{Bool, true, false, cond}
use mathlib.Core.List.{List}
use Prim.Native.Nat.{ℕ, ◌*◌, ◌≤◌, ◌<◌}
use native.Mathlib.Omega.{arith}
use lib.Dec.{ltb, eqb}
use lib.ListN.{length}
use lib.Ieee.{Float}
use borrow.Author.Tests.{ltb-false, eqb-true, eqb-false}
use Rattle.floats.specs.Limits.{max_rows, max_columns}
use Rattle.floats.specs.Search.{first_bad}
use Rattle.std.specs.Prelude.{Option, Some, None, Result, Ok, Err}
use Rattle.columns.specs.declared.SheetSize.{SheetSize}
use Rattle.columns.specs.declared.SizeError.{SizeError}
use Rattle.columns.specs.declared.SizeError.TheVariants.{TooManyRows, TooManyColumns}
use Rattle.columns.specs.declared.ColumnsError.TheVariants.{NoColumn, WrongLength}
use Rattle.columns.specs.Sheet.{size_of, numbers_by, run_of, run_by, columns_of, Design}

-- a size that fits is the one asked for, and within the limits
pub fits-within : (n k : ℕ) {size : SheetSize} → size_of n k ≡ Ok size → (n ≤ max_rows) × (k ≤ max_columns) × (size ≡ record { rows = n; columns = k })
fits-within n k {size} h = go (ltb max_rows n) (ltb max_columns k) refl refl h
  where
    go : (a b : Bool) → ltb max_rows n ≡ a → ltb max_columns k ≡ b → cond a (Err TooManyRows) (cond b (Err TooManyColumns) (Ok (record { rows = n; columns = k }))) ≡ Ok size → (n ≤ max_rows) × (k ≤ max_columns) × (size ≡ record { rows = n; columns = k })
    go true b p q e = cc
    go false true p q e = cc
    go false false p q e = (ltb-false max_rows n p, ltb-false max_columns k q, cc)

-- what a caller of the later steps may take from sound columns
pub record SoundColumns (x : List Float) (n k : ℕ) (size : SheetSize) : Type 0 where
  pub some : 0 < k
  pub asked : size ≡ record { rows = n; columns = k }
  pub design : Design size x
  pub numbers : first_bad x ≡ None

run_sound : (x : List Float) (size : SheetSize) {found : SheetSize} → run_of x size ≡ Ok found → (found ≡ size) × (size.columns * size.rows ≡ length x) × (first_bad x ≡ None)
run_sound x size {found} h = go (eqb (length x) (size.columns * size.rows)) (first_bad x) refl refl h
  where
    go : (b : Bool) (f : Option ℕ) → eqb (length x) (size.columns * size.rows) ≡ b → first_bad x ≡ f → cond b (numbers_by size f) (Err WrongLength) ≡ Ok found → (found ≡ size) × (size.columns * size.rows ≡ length x) × (first_bad x ≡ None)
    go true (Some t) p q e = cc
    go true None p q e = (cc, sym (eqb-true (length x) (size.columns * size.rows) p), q)
    go false f p q e = cc

pub sound-columns : (x : List Float) (n k : ℕ) {size : SheetSize} → columns_of x n k ≡ Ok size → SoundColumns x n k size
sound-columns x n k {size} h = go (eqb k 0) (size_of n k) refl refl h
  where
    go : (b : Bool) (s : Result SheetSize SizeError) → eqb k 0 ≡ b → size_of n k ≡ s → cond b (Err NoColumn) (run_by s x) ≡ Ok size → SoundColumns x n k size
    go true s p q e = cc
    go false (Err why) p q e = cc
    go false (Ok fitting) p q e =
        let w = fits-within n k q in
        let r = run_sound x fitting e in
        let z = eqb-false k 0 p in
        let same = r.0 ∙ w.2 in
        record { some = omega arith; asked = same; design = rw same (w.0, w.1, rw w.2 at r.1); numbers = r.2 }
