-- Up to place j the values are made, and behind it they are as lent.
use mathlib.Core.Path.{◌≡◌}
use Rattle.floats.specs.Words.{◌⊗◌, ◌‼◌}
use Rattle.floats.proofs.RowLaws.{filled}
use Rattle.elementary.specs.Sin.{sin_of}
use Rattle.elementary.specs.Patterns.{half}
use Rattle.integrand.proofs.lanes.sine_over_rho.Given as goal

abbrev pub invariant-loop-j : goal.invariant-loop-j
invariant-loop-j l = l.s ≡ filled (λ j. sin_of (half ⊗ l.angles ‼ j) ⊗ l.factors ‼ j) l.j l.initial.s
