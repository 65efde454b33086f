-- L^-1 grows by one row at a time. Assumes nothing.
use mathlib.Core.Path.{◌≡◌, refl}
use Prim.Native.Nat.{ℕ, ◌+◌}
use lib.ListN.{set}
use Rattle.floats.specs.Turns.{turns}
use Rattle.floats.proofs.TurnLaws.{turns_more}
use Rattle.design.specs.Matrix.{Matrix, zero_matrix, row}
use Rattle.design.specs.Inverse.{lower_entry, lower_inverse}

module _ (l : Matrix) where
  pub rows_none : lower_inverse l 0 ≡ zero_matrix
  unfolding lower_inverse turns
  rows_none = refl

  pub rows_more : (i : ℕ) → lower_inverse l (i + 1) ≡ set (lower_inverse l i) i (row (i + 1) (lower_entry l (lower_inverse l i) i))
  unfolding lower_inverse
  rows_more i = turns_more (λ i r. set r i (row (i + 1) (lower_entry l r i))) i zero_matrix
