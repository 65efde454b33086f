-- After i turns the first i rows are those of X (X'X)^-1 X'. Assumes nothing.
use Rattle.floats.specs.Tables.{triangle}
use Rattle.projection.proofs.ProjectionLaws.{hat_to}
use Prim.Native.Nat.{◌≤◌}
use mathlib.Core.Path.{◌≡◌}
use lib.ListN.{length}
use Rattle.projection.proofs.Fit.hat.Given as goal

abbrev pub invariant-loop-i : goal.invariant-loop-i
invariant-loop-i l = (l.i ≤ l.n) × (length l.m ≡ triangle l.n) × (length l.u ≡ l.self.sheet.size.columns) × (l.m ≡ hat_to l.self.sheet.run.now l.self.inv.now l.n l.self.sheet.size.columns l.i)
