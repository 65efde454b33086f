-- One number of the row more at each turn, as the definition has it. Assumes nothing.
use Rattle.design.specs.Factor.{left_to}
use Prim.Native.Nat.{◌≤◌}
use mathlib.Core.Path.{◌≡◌}
use Rattle.design.proofs.cholesky.left_of.Given as goal

abbrev pub invariant-loop-j : goal.invariant-loop-j
invariant-loop-j l = (l.j ≤ l.i) × (l.row ≡ left_to l.columns l.n l.l l.i l.j)
