-- Entries of a matrix, and that the trace of a product needs only its diagonal. Assumes nothing.
use mathlib.Core.Path.{◌≡◌}
use mathlib.Core.Bool.{cond}
use mathlib.Core.List.{[]}
use Prim.Native.Nat.{ℕ, ◌≤◌, ◌<◌}
use native.Mathlib.Omega.{arith}
use lib.Dec.{ltb}
use lib.Ieee.{Float, nan}
use borrow.Author.Tests.{lt-ltb}
use Rattle.floats.specs.Limits.{max_columns}
use Rattle.floats.specs.Words.{◌⊗◌, plus_zero}
use Rattle.floats.specs.Sums.{sum_of}
use Rattle.floats.proofs.ListLaws.{sum_same}
use Rattle.floats.proofs.TableLaws.{get_d-table}
use Rattle.design.specs.Matrix.{Matrix, entry, zero_row, row, matrix, product_of, trace_of}

-- entry (i, j) of a matrix, within its first k rows and columns
entry-matrix : (k : ℕ) (f : ℕ → ℕ → Float) {i j : ℕ} → k ≤ max_columns → i < k → j < k → entry (matrix k f) i j ≡ f i j
unfolding matrix row
entry-matrix k f {i} {j} b h g =
    let p : i < max_columns = omega arith in
    let q : j < max_columns = omega arith in
    rw (get_d-table (λ i. cond (ltb i k) (row k (f i)) zero_row) max_columns i [] p, lt-ltb i k h, get_d-table (λ j. cond (ltb j k) (f i j) plus_zero) max_columns j nan q, lt-ltb j k g)

pub trace-product : (k : ℕ) (a b : Matrix) → k ≤ max_columns → trace_of k (product_of k a b) ≡ sum_of k (λ i. sum_of k (λ m. entry a i m ⊗ entry b m i))
trace-product k a b h = sum_same k _ _ (λ i l. entry-matrix k (λ i j. sum_of k (λ m. entry a i m ⊗ entry b m j)) h l l)
