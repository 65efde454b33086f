-- Before m no coupling from l on is negligible, and `above` is the size of diagonal entry m. Assumes nothing.
use Rattle.std.specs.Prelude.{None}
use Rattle.floats.specs.Words.{◌‼◌}
use Rattle.floats.specs.Search.{first_where}
use Rattle.ql.proofs.SizeLaws.{size_of}
use Rattle.ql.specs.Rotation.{negligible}
use Prim.Native.Nat.{◌≤◌, ◌+◌, ◌-◌}
use mathlib.Core.Path.{◌≡◌}
use Rattle.ql.proofs.Bands.block_end.Given as goal

abbrev pub invariant-loop-m : goal.invariant-loop-m
invariant-loop-m l = (l.l ≤ l.m) × (l.m ≤ l.self.n - 1) × (l.above ≡ size_of (l.self.d.now ‼ l.m)) × (first_where (l.m - l.l) (λ t. negligible (l.self.e.now ‼ (l.l + t)) (l.self.d.now ‼ (l.l + t)) (l.self.d.now ‼ (l.l + t + 1))) ≡ None)
