-- The loop's invariant: the rows made so far are the factor's, and no pivot failed. The tests that the code makes are those of the definition once each call's result is put in. Assumes nothing.
use Rattle.floats.specs.Search.{first_where}
use Rattle.std.specs.Prelude.{None}
use Rattle.design.specs.Factor.{factor_of, fails_at}
use Prim.Native.Nat.{◌≤◌}
use mathlib.Core.Path.{◌≡◌}
use Rattle.design.proofs.factor.Given as goal

abbrev pub invariant-loop-i : goal.invariant-loop-i
invariant-loop-i l = (l.i ≤ l.k) × (l.l ≡ factor_of l.columns l.n l.i) × (first_where l.i (fails_at l.columns l.n) ≡ None)
