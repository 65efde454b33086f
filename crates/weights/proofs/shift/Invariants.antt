use Rattle.weights.proofs.WeightLaws.{Gathered}
use Rattle.weights.proofs.shift.Given as goal

abbrev pub invariant-loop-x : goal.invariant-loop-x
invariant-loop-x l = Gathered l.eigenvalues l.d l.initial.weights l.weights l.m l.x-index
