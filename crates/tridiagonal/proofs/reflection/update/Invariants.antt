-- After t turns the first t rows of S are new, each up to the diagonal. Assumes nothing.
use Rattle.floats.specs.Matrix.{half_entry}
use Rattle.floats.proofs.HalfLaws.{rows_to}
use Rattle.tridiagonal.specs.Reflection.{below}
use Rattle.tridiagonal.proofs.UpdateLaws.{updated}
use Prim.Native.Nat.{◌≤◌, ◌+◌}
use mathlib.Core.Path.{◌≡◌}
use lib.ListN.{length}
use Rattle.tridiagonal.proofs.reflection.update.Given as goal

abbrev pub invariant-loop-t : goal.invariant-loop-t
invariant-loop-t l = (l.t ≤ below l.n l.c) × (l.t-end ≡ below l.n l.c) × (length l.a ≡ length l.initial.a) × (l.a ≡ rows_to l.n (updated l.n l.c l.initial.a l.v l.q) (half_entry l.initial.a) (l.c + 1 + l.t))
