-- Up to place j both runs are filled with sums that have the weight's term, and behind it they are as lent: each turn fills one place more.
use mathlib.Core.Path.{◌≡◌}
use mathlib.Core.Bool.{cond}
use lib.Ieee.{neg}
use Rattle.floats.specs.Words.{◌⊕◌, ◌⊗◌, ◌‼◌, square_of}
use Rattle.floats.proofs.RowLaws.{filled}
use Rattle.elementary.specs.Near.{angle_by, log_by}
use Rattle.elementary.specs.Points.{points}
use Rattle.integrand.proofs.lanes.add_near.Given as goal

abbrev pub invariant-loop-j : goal.invariant-loop-j
invariant-loop-j l = record {
  angles : l.angles ≡ filled (λ j. l.initial.angles ‼ j ⊕ cond l.minus (neg (angle_by points (l.a ⊗ l.u ‼ j))) (angle_by points (l.a ⊗ l.u ‼ j))) l.j l.initial.angles;
  logs : l.logs ≡ filled (λ j. l.initial.logs ‼ j ⊕ log_by points (square_of (l.a ⊗ l.u ‼ j))) l.j l.initial.logs;
}
