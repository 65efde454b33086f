use Prim.Native.Nat.{ℕ, ◌≤◌, ◌*◌, ◌+◌}
use mathlib.Core.Path.{◌≡◌}
use Prim.Native.Nat.{◌/◌}
use mathlib.Core.List.{List}
use lib.Ieee.{Float}
use Rattle.floats.specs.Turns.{turns}
use Rattle.floats.specs.Words.{◌‼◌, ◌⊗◌, ◌⊕◌}
use Rattle.imhof.specs.Rule.{kronrod, gauss, pair_at, middle_at}
use Rattle.imhof.proofs.rule.gathered.Given as goal

-- Kronrod's and Gauss's sums after i pairs
abbrev pub kronrod_after : List Float → ℕ → Float
kronrod_after fs i = turns i (λ i s. s ⊕ kronrod ‼ i ⊗ pair_at fs i) (kronrod ‼ 7 ⊗ middle_at fs)

abbrev pub gauss_after : List Float → ℕ → Float
gauss_after fs j = turns j (λ j s. s ⊕ gauss ‼ j ⊗ pair_at fs (2 * j + 1)) (gauss ‼ 3 ⊗ middle_at fs)

abbrev pub invariant-loop-i : goal.invariant-loop-i
invariant-loop-i l = (l.i ≤ 7) × (l.k ≡ kronrod_after l.f l.i) × (l.g ≡ gauss_after l.f (l.i / 2))
