-- Up to the place each number is made e to it, and behind it they are as lent.
use mathlib.Core.Path.{◌≡◌}
use Rattle.floats.specs.Words.{◌‼◌}
use Rattle.floats.proofs.RowLaws.{filled}
use Rattle.elementary.specs.Exp.{exp_of}
use Rattle.integrand.proofs.lanes.exps.Given as goal

abbrev pub invariant-loop-x : goal.invariant-loop-x
invariant-loop-x l = l.xs ≡ filled (λ j. exp_of (l.initial.xs ‼ j)) l.x-index l.initial.xs
