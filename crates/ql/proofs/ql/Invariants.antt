-- After l turns the mark is whether one of the first l indexes left a coupling, and the bands and the tally are those of their turns. Assumes nothing.
use Rattle.ql.specs.Ql.{Worked, ql_of, stuck_of}
use Prim.Native.Nat.{◌≤◌}
use mathlib.Core.Path.{◌≡◌}
use Rattle.ql.proofs.ql.Given as goal

abbrev pub invariant-loop-l : goal.invariant-loop-l
invariant-loop-l l = (l.l ≤ l.n) × (l.bands.d.ghost_name ≡ l.initial.bands.d.ghost_name) × (l.bands.e.ghost_name ≡ l.initial.bands.e.ghost_name) × (l.bands.n ≡ l.n) × (◌≡◌ {A = Worked} (record { diagonal = l.bands.d.now; coupling = l.bands.e.now; work = l.swept.work }) (ql_of l.n l.l l.initial.bands.d.now l.initial.bands.e.now l.initial.swept.work)) × (l.swept.stuck ≡ stuck_of l.n l.l l.initial.bands.d.now l.initial.bands.e.now l.initial.swept.work)
