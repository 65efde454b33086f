use Rattle.design.specs.Inverse.{lower_inverse}
use Prim.Native.Nat.{◌≤◌}
use mathlib.Core.Path.{◌≡◌}
use Rattle.design.proofs.lower.lower_inverse.Given as goal

abbrev pub invariant-loop-i : goal.invariant-loop-i
invariant-loop-i l = (l.i ≤ l.k) × (l.r ≡ lower_inverse l.l l.i)
