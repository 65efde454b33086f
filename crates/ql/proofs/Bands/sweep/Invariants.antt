-- What is left of the sweep equals the whole sweep, after every rotation. Assumes nothing.
use Rattle.ql.specs.Sweep.{sweep_from, sweep_of}
use Prim.Native.Nat.{◌≤◌, ◌-◌}
use mathlib.Core.Path.{◌≡◌}
use Rattle.ql.proofs.Bands.sweep.Given as goal

abbrev pub invariant-loop-i : goal.invariant-loop-i
invariant-loop-i l = (l.l ≤ l.i) × (l.i ≤ l.m) × (l.self.d.ghost_name ≡ l.initial.self.d.ghost_name) × (l.self.e.ghost_name ≡ l.initial.self.e.ghost_name) × (l.self.n ≡ l.initial.self.n) × (sweep_from l.l l.m (l.i - l.l) l.at l.self.d.now l.self.e.now ≡ sweep_of l.l l.m l.initial.self.d.now l.initial.self.e.now)
