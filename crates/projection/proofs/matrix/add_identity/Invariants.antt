-- After i turns the first i entries of the diagonal are one larger. Assumes nothing.
use Rattle.floats.specs.Matrix.{half_entry}
use Rattle.floats.proofs.HalfLaws.{rows_to}
use Rattle.projection.proofs.IdentityLaws.{identified}
use Prim.Native.Nat.{◌≤◌}
use mathlib.Core.Path.{◌≡◌}
use lib.ListN.{length}
use Rattle.projection.proofs.matrix.add_identity.Given as goal

abbrev pub invariant-loop-i : goal.invariant-loop-i
invariant-loop-i l = (l.i ≤ l.n) × (length l.a ≡ length l.initial.a) × (l.a ≡ rows_to l.n (identified (half_entry l.initial.a)) (half_entry l.initial.a) l.i)
