-- A sweep of the implicit QL algorithm: the block that it works on, its shift, and its rotations from the block's end down. Definitions only. Assumes nothing.
use Rattle.std.specs.Prelude.{ℕ, zero, suc, ◌+◌, ◌-◌, List, set, Float, Option, Some, None}
use Rattle.floats.specs.Words.{◌⊕◌, ◌⊖◌, ◌⊗◌, ◌⊘◌, ◌‼◌, plus_zero, one, two}
use Rattle.floats.specs.Signs.{copysign_of}
use Rattle.floats.specs.Search.{first_where}
use Rattle.roots.specs.Hypot.{hypot_of}
use Rattle.ql.specs.declared.Rotation.{Rotation}
use Rattle.ql.specs.declared.Rotated.{Rotated}
use Rattle.ql.specs.Rotation.{negligible, rotated}

-- index l + t where it was found, else the last
abbrev pub end_at : ℕ → ℕ → Option ℕ → ℕ
end_at n l (Some t) = l + t
end_at n l None = n - 1

-- the last index of the block that begins at l: the first from l on whose coupling is negligible, else n - 1
unfoldable pub block_end : ℕ → List Float → List Float → ℕ → ℕ
block_end n d e l = end_at n l (first_where (n - 1 - l) (λ t. negligible (e ‼ (l + t)) (d ‼ (l + t)) (d ‼ (l + t + 1))))

-- what the sweep begins with: d m less Wilkinson's shift, from the block's first two diagonal entries, its last, and its first coupling
unfoldable pub shift_of : Float → Float → Float → Float → Float
shift_of first second last e =
    let g : Float = (second ⊖ first) ⊘ (two ⊗ e) in
    last ⊖ first ⊕ e ⊘ (g ⊕ copysign_of (hypot_of g one) g)

-- a tridiagonal matrix: its diagonal and its couplings
pub record Bands : Type 0 where
  pub diagonal : List Float
  pub coupling : List Float

-- a sweep that goes on with the next rotation, or is cut short where there is none
abbrev pub go_on : Option Rotation → (Rotation → Bands) → Bands → Bands
go_on (Some at) rest cut = rest at
go_on None rest cut = cut

-- the sweep of the block from l to m, where f rotations are left: of suc f the next is at i = l + f
unfoldable pub sweep_from : ℕ → ℕ → ℕ → Rotation → List Float → List Float → Bands
sweep_from l m zero at d e = record { diagonal = set d l (d ‼ l ⊖ at.p); coupling = set (set e l at.g) m plus_zero }
sweep_from l m (suc f) at d e =
    let i : ℕ = l + f in
    let turn : Rotated = rotated at (d ‼ i) (d ‼ (i + 1)) (e ‼ i) in
    go_on turn.next
    (λ next. sweep_from l m f next (set d (i + 1) turn.diagonal) (set e (i + 1) turn.coupling))
    (record { diagonal = set d (i + 1) turn.diagonal; coupling = set (set e (i + 1) turn.coupling) m plus_zero })

unfoldable pub sweep_of : ℕ → ℕ → List Float → List Float → Bands
unfolding sweep_from
sweep_of l m d e = sweep_from l m (m - l) (record { s = one; c = one; g = shift_of (d ‼ l) (d ‼ (l + 1)) (d ‼ m) (e ‼ l); p = plus_zero }) d e
