use Prim.Native.Nat.{◌≤◌, ◌*◌, ◌+◌}
use mathlib.Core.Path.{◌≡◌}
use lib.ListN.{length}
use Rattle.floats.specs.Sums.{sum_of}
use Rattle.halves.proofs.StepLaws.{dot_term}
use Rattle.halves.proofs.eight_dots.Given as goal

abbrev pub invariant-loop-j : goal.invariant-loop-j
invariant-loop-j l = (l.j ≤ length l.v) × (l.j-end ≡ length l.v) × (l.a ≡ sum_of l.j (dot_term l.xs l.stride l.v 0)) × (l.b ≡ sum_of l.j (dot_term l.xs l.stride l.v 1)) × (l.c ≡ sum_of l.j (dot_term l.xs l.stride l.v 2)) × (l.d ≡ sum_of l.j (dot_term l.xs l.stride l.v 3)) × (l.e ≡ sum_of l.j (dot_term l.xs l.stride l.v 4)) × (l.f ≡ sum_of l.j (dot_term l.xs l.stride l.v 5)) × (l.g ≡ sum_of l.j (dot_term l.xs l.stride l.v 6)) × (l.h ≡ sum_of l.j (dot_term l.xs l.stride l.v 7)) × (7 * l.stride + 21 + length l.v ≤ length l.xs)
