use Prim.Native.Nat.{◌≤◌}
use mathlib.Core.Path.{◌≡◌}
use lib.ListN.{length}
use Rattle.floats.specs.Sums.{sum_of}
use Rattle.floats.proofs.RowLaws.{filled}
use Rattle.halves.specs.RowStarts.{row_start}
use Rattle.halves.proofs.StepLaws.{dot_term}
use Rattle.halves.proofs.row_dots.Given as goal

abbrev pub invariant-loop-t : goal.invariant-loop-t
invariant-loop-t l = (l.t ≤ length l.initial.p) × (length l.p ≡ length l.initial.p) × (l.t-end ≡ length l.initial.p) × (l.start ≡ row_start l.stride l.t) × (l.p ≡ filled (λ s. sum_of (length l.v) (dot_term l.xs l.stride l.v s)) l.t l.initial.p)
