-- Before the turn over n records the work is that of n - 1 turns: it goes on with this tally, and these are its records.
use Rattle.std.proofs.Common.{◌≡◌, ◌-◌, ◌+◌, ◌*◌}
use Rattle.imhof.specs.Integrand.{integrand_of}
use Rattle.imhof.specs.Rule.{rule_size}
use Rattle.records.specs.Records.{going, work, work_after}
use Rattle.records.proofs.refine.Given as goal

abbrev pub invariant-loop-n : goal.invariant-loop-n
invariant-loop-n l = record {
  bisections : l.tally.bisections + 1 ≡ l.n;
  evaluations : l.tally.evaluations + rule_size ≡ 2 * rule_size * l.n;
  worked : work_after (l.n - 1) (integrand_of l.weights) l.lo l.hi l.fn.parts ≡ work (going l.tally) l.parts;
}
