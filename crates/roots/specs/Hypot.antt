-- hypot: √(x² + y²), correctly rounded, by the same `root_of` as the square root. Callers cite laws (proofs/Laws.antt).
-- In units of 2 ^ -1074 it is √(A² + B²) for numbers of A and B units: the root of a whole number, rounded once. specs/Nearest.antt says what that is with no algorithm.
-- Definitions only. Assumes nothing.
use Rattle.std.specs.Prelude.{ℕ, ◌+◌, ◌*◌, ◌/◌, ◌^◌, false, ℤ, Float}
use Rattle.std.specs.Float.{nan, inf, fin}
use Rattle.std.specs.Float.Ieee.{up, down}
use Rattle.roots.specs.Root.{root_of}

-- how many units m * 2 ^ e has
abbrev pub in_units : ℕ → ℤ → ℕ
in_units m e = m * up e * 2 ^ 1074 / down e

-- An infinity wins over all, a NaN too; else a NaN does (IEEE 754, 9.2.1).
unfoldable pub hypot_of : Float → Float → Float
unfolding root_of
hypot_of (inf s) y = inf false
hypot_of nan nan = nan
hypot_of nan (inf t) = inf false
hypot_of nan (fin t n d) = nan
hypot_of (fin s m e) nan = nan
hypot_of (fin s m e) (inf t) = inf false
hypot_of (fin s m e) (fin t n d) = root_of (in_units m e * in_units m e + in_units n d * in_units n d)
