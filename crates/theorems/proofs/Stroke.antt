-- One stroke as three scanners report it: 0.3, -0.25, 0.4, -0.35, 0.1; with the other sign; and in units eight times finer, 2.4, -2, 3.2, -2.8, 0.8. By computation the second
-- scan is the first one turned, and the third is it times 2^3 and meets the rule as the first does; so by the laws the three are alike. Assumes nothing.
use mathlib.Core.Path.{◌≡◌, refl, sym, subst}
use mathlib.Core.Bool.{true}
use mathlib.Core.List.{List, [], ◌∷◌, map}
use lib.Dec.{T, lit≤}
use lib.IntN.{pos, negsuc}
use lib.Ieee.{Float, add, sub, mul, div, neg, eq, of_bits, fits}
use Rattle.std.specs.Prelude.{Ok}
use Rattle.floats.specs.Words.{float}
use Rattle.floats.specs.Sums.{sum_of}
use Rattle.floats.specs.Search.{first_where, first_bad}
use Rattle.floats.specs.Held.{all?, held?}
use Rattle.autocorrelation.specs.Statistic.{durbin_watson_answer}
use Rattle.theorems.specs.Scan.{turned, power, scaled, ruled, Alike}
use Rattle.theorems.proofs.Turned.{sign}
use Rattle.theorems.proofs.Scaled.{unit}

abbrev thin_positive : List Float
thin_positive = map float (0x3fd3333333333333 ∷ 0xbfd0000000000000 ∷ 0x3fd999999999999a ∷ 0xbfd6666666666666 ∷ 0x3fb999999999999a ∷ [])

abbrev thin_negative : List Float
thin_negative = map float (0xbfd3333333333333 ∷ 0x3fd0000000000000 ∷ 0xbfd999999999999a ∷ 0x3fd6666666666666 ∷ 0xbfb999999999999a ∷ [])

abbrev finer : List Float
finer = map float (0x4003333333333333 ∷ 0xc000000000000000 ∷ 0x400999999999999a ∷ 0xc006666666666666 ∷ 0x3fe999999999999a ∷ [])

-- 8, and the powers at both ends of the limit, by their bits
pub powers : map power (pos 3 ∷ negsuc 499 ∷ pos 500 ∷ []) ≡ map float (0x4020000000000000 ∷ 0x20b0000000000000 ∷ 0x5f30000000000000 ∷ [])
unfolding of_bits
powers = refl

pub scans : (turned thin_positive ≡ thin_negative) × (scaled (pos 3) thin_positive ≡ finer)
unfolding mul neg of_bits
scans = (refl, refl)

pub met : (held? thin_positive ≡ true) × (ruled thin_positive ≡ true) × (ruled (scaled (pos 3) thin_positive) ≡ true)
unfolding mul all? of_bits fits
met = (refl, refl, refl)

-- so the three scans have one answer, whatever the columns, the choices and the rooms are
pub three-alike : Alike thin_positive thin_negative × Alike thin_positive finer
three-alike = (
  subst (Alike thin_positive) scans.0 (sign thin_positive),
  subst (Alike thin_positive) scans.1 (unit (pos 3) thin_positive (lit≤ tt) (subst T (sym met.0) tt) (subst T (sym met.1) tt) (subst T (sym met.2) tt)),
)

-- and this statistic, 3.348..
pub three-told : durbin_watson_answer thin_positive ≡ Ok (float 0x400ac9592b2564ac)
unfolding durbin_watson_answer first_bad first_where sum_of add sub mul div neg eq of_bits
three-told = refl
