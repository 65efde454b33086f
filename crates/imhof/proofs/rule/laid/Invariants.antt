-- After i nodes the places 0 to 2 i - 1 are stored, in a run that was all middle: `turns` of the two stores. Seven of them make the rule's points and the middle once more, by computation.
use Prim.Native.Nat.{ℕ, ◌*◌, ◌+◌}
use mathlib.Core.Path.{◌≡◌}
use mathlib.Core.List.{List}
use lib.Ieee.{Float}
use lib.ListN.{length, replicate, set}
use Rattle.floats.specs.Turns.{turns}
use Rattle.floats.specs.Words.{◌‼◌, ◌⊖◌, ◌⊗◌, ◌⊕◌}
use Rattle.imhof.specs.Rule.{nodes}
use Rattle.imhof.proofs.rule.laid.Given as goal

abbrev pub stored_after : Float → Float → ℕ → List Float
stored_after c h i = turns i (λ i s. set (set s (2 * i) (c ⊖ h ⊗ nodes ‼ i)) (2 * i + 1) (c ⊕ h ⊗ nodes ‼ i)) (replicate 16 c)

abbrev pub invariant-loop-i : goal.invariant-loop-i
invariant-loop-i l = (length l.s ≡ 16) × (l.s ≡ stored_after l.c l.h l.i)
