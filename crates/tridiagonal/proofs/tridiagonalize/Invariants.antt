-- After c turns `a` holds the lower triangle of c reflections of the whole matrix. Assumes nothing.
use Rattle.floats.specs.Limits.{max_rows}
use Rattle.floats.specs.Turns.{turns}
use Rattle.floats.specs.Matrix.{whole, half_of}
use Rattle.tridiagonal.specs.Reflection.{reflected}
use lib.ListN.{length}
use Prim.Native.Nat.{◌≤◌, ◌-◌}
use mathlib.Core.Path.{◌≡◌}
use Rattle.tridiagonal.proofs.tridiagonalize.Given as goal

abbrev pub invariant-loop-c : goal.invariant-loop-c
invariant-loop-c l = (l.c ≤ l.n - 2) × (l.c-end ≡ l.n - 2) × (length l.a ≡ length l.initial.a) × (l.a ≡ half_of l.n (turns l.c (reflected l.n) (whole l.n l.initial.a))) × (length l.v ≡ max_rows) × (length l.p ≡ max_rows)
