-- After s turns the first s rows stand there, a stride apart, and the next row and the one before it are in hand, if there is a next. Assumes nothing.
use Rattle.projection.specs.Loaded.{Loaded}
use Rattle.projection.proofs.ProjectionLaws.{row_at}
use Prim.Native.Nat.{◌+◌, ◌≤◌, ◌<◌, ◌-◌}
use mathlib.Core.Path.{◌≡◌}
use lib.ListN.{length}
use Rattle.projection.proofs.Maker.load_rows.Given as goal

abbrev pub invariant-loop-s : goal.invariant-loop-s
invariant-loop-s l = (l.s ≤ l.k) × (length l.w ≡ length l.initial.w) × (length l.before ≡ l.n) × (length l.here ≡ l.n) × (l.t + l.s < l.n → (l.before ≡ row_at l.self.m.now l.n (l.t + l.s - 1)) × (l.here ≡ row_at l.self.m.now l.n (l.t + l.s))) × (Loaded l.stride l.n l.t l.self.m.now l.s l.w)
