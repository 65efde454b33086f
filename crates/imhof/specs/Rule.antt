-- The Gauss-Kronrod rule of 7 and 15 points on an interval: an estimate of the integral, and of its error.
-- Numbers are given by their bit patterns, each operation is rounded once (floats' Words). Definitions only. Assumes nothing.
use Rattle.std.specs.Prelude.{ℕ, ◌+◌, ◌*◌, List, [], ◌∷◌, ◌++◌, map, length, take, Float}
use Rattle.floats.specs.Words.{◌⊕◌, ◌⊖◌, ◌⊗◌, ◌‼◌, float, plus_zero, one}
use Rattle.floats.specs.Signs.{abs_of}
use Rattle.floats.specs.Turns.{turns}
use Rattle.imhof.specs.declared.Part.{Part}
use Rattle.elementary.specs.Patterns.{half}

-- the nodes on [0, 1], from the outermost to 0
abbrev pub nodes : List Float
nodes =
    map float
    (0x3fefba009d4d09b1 ∷ 0x3fee5f178e7c6229 ∷ 0x3febacf827b9bb3e ∷ 0x3fe7ba9f9be3a1d5 ∷ 0x3fe2c13a049dfa24 ∷ 0x3fd9f95df119fd62 ∷
    0x3fca98b2892e0c78 ∷ 0x0000000000000000 ∷ [])

-- Kronrod's weights of all nodes
abbrev pub kronrod : List Float
kronrod =
    map float
    (0x3f977c5b67d5746f ∷ 0x3fb026cdaa7b61c3 ∷ 0x3fbad384a34814c7 ∷ 0x3fc200ed0f46e8c0 ∷ 0x3fc5a1f266e47d5c ∷ 0x3fc85d6861c80eb0 ∷
    0x3fca2adbcbec9cd9 ∷ 0x3fcad04f9087090e ∷ [])

-- Gauss's weights of nodes 1, 3, 5 and 7
abbrev pub gauss : List Float
gauss = map float (0x3fc092f69f826d57 ∷ 0x3fd1e6b1713d8645 ∷ 0x3fd86fe74ee32b3d ∷ 0x3fdabfd7e03c2fa6 ∷ [])

-- the middle of an interval, and half of its width
abbrev pub middle_of : Float → Float → Float
middle_of a b = half ⊗ (a ⊕ b)

abbrev pub half_width : Float → Float → Float
half_width a b = half ⊗ (b ⊖ a)

-- the two points of each node, below and above the middle c of an interval of half the width h
abbrev pub about_of : Float → Float → List Float → List Float
about_of c h [] = []
about_of c h (x ∷ xs) = (c ⊖ h ⊗ x) ∷ (c ⊕ h ⊗ x) ∷ about_of c h xs

-- where the rule asks the integrand on the interval from a to b: two points a node above 0, and the middle, once
abbrev pub points_of : Float → Float → List Float
points_of a b = about_of (middle_of a b) (half_width a b) (take 7 nodes) ++ (middle_of a b ∷ [])

-- how many these are: as many on every interval (proofs/RuleLaws.antt)
abbrev pub rule_size : ℕ
rule_size = length (points_of plus_zero one)

-- of the integrand's values fs at the points of an interval: the sum of both at node i, and that at the middle
abbrev pub pair_at : List Float → ℕ → Float
pair_at fs i = fs ‼ (2 * i) ⊕ fs ‼ (2 * i + 1)

abbrev pub middle_at : List Float → Float
middle_at fs = fs ‼ (2 * 7)

-- Kronrod's sum: the middle, then the pairs 0 to 6
abbrev pub kronrod_sum : List Float → Float
kronrod_sum fs = turns 7 (λ i s. s ⊕ kronrod ‼ i ⊗ pair_at fs i) (kronrod ‼ 7 ⊗ middle_at fs)

-- Gauss's sum: the middle, then the pairs 1, 3 and 5
abbrev pub gauss_sum : List Float → Float
gauss_sum fs = turns 3 (λ j s. s ⊕ gauss ‼ j ⊗ pair_at fs (2 * j + 1)) (gauss ‼ 3 ⊗ middle_at fs)

-- the part from a to b, of these values: Kronrod's estimate, and its distance from Gauss's
abbrev pub rule_of : Float → Float → List Float → Part
rule_of a b fs =
    let h = half_width a b in
    record { lo = a; hi = b; value = kronrod_sum fs ⊗ h; error = abs_of ((kronrod_sum fs ⊖ gauss_sum fs) ⊗ h) }

-- the part from a to b by the integrand f
unfoldable pub gk15_of : (Float → Float) → Float → Float → Part
unfolding turns
gk15_of f a b = rule_of a b (map f (points_of a b))
