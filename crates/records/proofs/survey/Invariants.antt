-- After i records l is the look at the first i.
use Rattle.std.proofs.Common.{◌≡◌}
use Rattle.records.specs.Records.{look_of}
use Rattle.records.proofs.survey.Given as goal

abbrev pub invariant-loop-i : goal.invariant-loop-i
invariant-loop-i l = l.look ≡ look_of l.parts l.i
