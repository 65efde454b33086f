-- One rotation of the implicit QL algorithm on a symmetric tridiagonal matrix, and when a coupling is negligible.
-- The steps and their order of roundings are the Rust's (symmetric_eigenvalues). Definitions only. Assumes nothing.
use Rattle.std.specs.Prelude.{Bool, cond, Float, Some, None}
use Rattle.std.specs.Float.Ieee.{le, eq}
use Rattle.floats.specs.Words.{◌⊕◌, ◌⊖◌, ◌⊗◌, ◌⊘◌, float, plus_zero, two}
use Rattle.floats.specs.Signs.{abs_of}
use Rattle.roots.specs.Hypot.{hypot_of}
use Rattle.ql.specs.declared.Rotation.{Rotation}
use Rattle.ql.specs.declared.Rotated.{Rotated}

-- 2^-52
abbrev pub epsilon : Float
epsilon = float 0x3cb0000000000000

-- the coupling e is negligible beside the diagonal entries above and below it: |e| ≤ 2^-52 (|above| + |below|)
unfoldable pub negligible : Float → Float → Float → Bool
negligible e above below = le (abs_of e) (epsilon ⊗ (abs_of above ⊕ abs_of below))

-- the rotation of s, c, g, p at the diagonal entries d and next that e couples, where r = hypot (s e) g is not 0
abbrev pub turned : Rotation → Float → Float → Float → Float → Rotated
turned at d next e r =
    let s : Float = (at.s ⊗ e) ⊘ r in
    let c : Float = at.g ⊘ r in
    let g : Float = next ⊖ at.p in
    let h : Float = (d ⊖ g) ⊗ s ⊕ two ⊗ c ⊗ (at.c ⊗ e) in
    record { next = Some (record { s = s; c = c; g = c ⊗ h ⊖ at.c ⊗ e; p = s ⊗ h }); diagonal = g ⊕ s ⊗ h; coupling = r }

-- where r is 0 the sweep is cut short, and only the diagonal entry is mended
unfoldable pub rotated : Rotation → Float → Float → Float → Rotated
rotated at d next e =
    let r : Float = hypot_of (at.s ⊗ e) at.g in
    cond (eq r plus_zero) (record { next = None; diagonal = next ⊖ at.p; coupling = r }) (turned at d next e r)
