use Rattle.floats.specs.Turns.{turns}
use Rattle.floats.specs.Signs.{before}
use Rattle.floats.specs.Words.{◌‼◌}
use mathlib.Core.Bool.{cond}
use Prim.Native.Nat.{◌≤◌, ◌-◌}
use mathlib.Core.Path.{◌≡◌}
use lib.ListN.{length}
use Rattle.imhof.proofs.room.last_greatest.Given as goal

abbrev pub invariant-loop-i : goal.invariant-loop-i
invariant-loop-i l = (l.i ≤ length l.errors) × (l.i-end ≡ length l.errors) × (l.w ≤ l.i - 1) × (l.w ≡ turns l.i (λ k v. cond (before (l.errors ‼ k) (l.errors ‼ v)) v k) 0)
