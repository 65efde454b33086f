-- As add_near, with the functions that take any number.
use mathlib.Core.Path.{◌≡◌}
use Rattle.floats.specs.Words.{◌⊕◌, ◌⊗◌, ◌‼◌, square_of}
use Rattle.floats.proofs.RowLaws.{filled}
use Rattle.elementary.specs.Atan.{atan_of}
use Rattle.elementary.specs.Ln.{ln1p_of}
use Rattle.integrand.proofs.lanes.add_any.Given as goal

abbrev pub invariant-loop-j : goal.invariant-loop-j
invariant-loop-j l = record {
  angles : l.angles ≡ filled (λ j. l.initial.angles ‼ j ⊕ atan_of (l.w ⊗ l.u ‼ j)) l.j l.initial.angles;
  logs : l.logs ≡ filled (λ j. l.initial.logs ‼ j ⊕ ln1p_of (square_of (l.w ⊗ l.u ‼ j))) l.j l.initial.logs;
}
