-- After k turns with no end the room holds the parts of the stage so far, k + 1 of them, and the tally has k bisections. Assumes nothing.
use Rattle.imhof.specs.Integrand.{integrand_of}
use Rattle.imhof.specs.Parts.{most_bisections}
use Rattle.imhof.specs.Rule.{rule_size}
use Rattle.imhof.proofs.HeldLaws.{Held, first}
use Prim.Native.Nat.{◌*◌, ◌+◌, ◌≤◌}
use mathlib.Core.Path.{◌≡◌}
use Rattle.imhof.proofs.adaptive.integrate.Given as goal

abbrev pub invariant-loop : goal.invariant-loop
invariant-loop l = record {
  turns : l.counter ≤ most_bisections;
  count : l.held.n ≡ l.counter + 1;
  same_room : l.held.room.ghost_name ≡ l.initial.held.room.ghost_name;
  bisections : l.tally.bisections ≡ l.counter;
  evaluations : l.tally.evaluations + rule_size ≡ 2 * rule_size * l.held.n;
  held : Held (integrand_of l.weights) (first l.initial.held.room.now) l.initial.held.room.now l.held.room.now l.tally l.held.n;
}
