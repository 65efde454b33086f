-- After m turns s is the sum of the first m terms. Assumes nothing.
use mathlib.Core.List.{[]}
use lib.Ieee.{nan}
use Rattle.floats.specs.Words.{◌⊗◌, ◌‼◌}
use Rattle.floats.specs.Sums.{sum_of}
use Prim.Native.Nat.{◌≤◌, ◌*◌, ◌+◌}
use mathlib.Core.Path.{◌≡◌}
use lib.ListN.{get_or}
use Rattle.projection.proofs.Fit.weight.Given as goal

abbrev pub invariant-loop-m : goal.invariant-loop-m
invariant-loop-m l = (l.m ≤ l.k) × (l.s ≡ sum_of l.m (λ m. l.self.sheet.run.now ‼ (m * l.n + l.t) ⊗ get_or (get_or l.self.inv.now m []) l.c nan))
