-- What is left of the turn equals the whole turn, after every sweep; a sweep adds one to the tally. Assumes nothing.
use Rattle.ql.specs.Ql.{most_sweeps, settled}
use Prim.Native.Nat.{◌≤◌, ◌-◌, ◌+◌}
use mathlib.Core.Path.{◌≡◌}
use Rattle.ql.proofs.Bands.settle.Given as goal

abbrev pub invariant-loop : goal.invariant-loop
invariant-loop l = (l.counter ≤ most_sweeps) × (l.self.d.ghost_name ≡ l.initial.self.d.ghost_name) × (l.self.e.ghost_name ≡ l.initial.self.e.ghost_name) × (l.self.n ≡ l.initial.self.n) × (l.tally.sweeps ≤ l.initial.tally.sweeps + l.counter) × (settled l.self.n l.l (most_sweeps - l.counter) l.self.d.now l.self.e.now l.tally ≡ settled l.initial.self.n l.l most_sweeps l.initial.self.d.now l.initial.self.e.now l.initial.tally)
