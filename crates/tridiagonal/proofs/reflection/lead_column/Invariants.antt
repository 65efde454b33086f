-- After the loop column c is 0 from row c + 2 on. Assumes nothing.
use Rattle.floats.specs.Tables.{half}
use Rattle.floats.specs.Matrix.{half_entry}
use Rattle.tridiagonal.proofs.UpdateLaws.{cleared}
use Prim.Native.Nat.{◌≤◌, ◌+◌}
use mathlib.Core.Path.{◌≡◌}
use lib.ListN.{length}
use Rattle.tridiagonal.proofs.reflection.lead_column.Given as goal

abbrev pub invariant-loop-i : goal.invariant-loop-i
invariant-loop-i l = (l.c + 2 ≤ l.i) × (l.i ≤ l.n) × (length l.a ≡ length l.initial.a) × (l.a ≡ half (cleared l.n l.c (half_entry l.initial.a) l.i) l.n)
