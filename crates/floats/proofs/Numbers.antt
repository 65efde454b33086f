-- Rounding makes no NaN, and a finite number added to a number that is none makes none. Assumes nothing.
use mathlib.Core.Path.{◌≡◌, refl, sym, ap, ◌∙◌}
use mathlib.Core.Bool.{Bool, true, false, ◌&&◌, cond, beq, true≢false}
use Prim.Native.Nat.{ℕ, zero, suc, ◌+◌, ◌-◌, ◌*◌, ◌^◌}
use lib.Dec.{ltb}
use lib.Ieee.{Float, nan, inf, fin, Format, binary64, prec, emax, low, up, down, units, odd, round, sum, add, is_nan}
use lib.Ieee.Fits.{round_is}
use lib.Ieee.Order.{kept, drop}
use lib.Ieee.Scale.{finite}
use Rattle.floats.specs.Words.{◌⊕◌}

odd_number : (d : ℕ) (s : Bool) (q k l : ℕ) → is_nan (odd d s q k l) ≡ false
unfolding odd is_nan
odd_number d s zero k l = refl
odd_number d s (suc q) k l = refl

either : (b : Bool) (x y : Float) → is_nan x ≡ false → is_nan y ≡ false → is_nan (cond b x y) ≡ false
either true x y h k = h
either false x y h k = k

units_number : (f : Format) (s : Bool) (q k : ℕ) → is_nan (units f s q k) ≡ false
unfolding units is_nan
units_number f s q k = either (ltb (q * 2 ^ k) (2 ^ (low f + suc (emax f)))) (odd (suc (prec f)) s q k (low f)) (inf s) (odd_number (suc (prec f)) s q k (low f)) refl

pub round_number : (f : Format) (s : Bool) (a c : ℕ) → is_nan (round f s a c) ≡ false
round_number f s a c = let n : ℕ = a * 2 ^ low f in ap is_nan (round_is f s a c) ∙ units_number f s (kept (prec f) n c) (drop (prec f) n c)

pub sum_number : (f : Format) (s : Bool) (a : ℕ) (t : Bool) (b c : ℕ) → is_nan (sum f s a t b c) ≡ false
unfolding sum
sum_number f s a t b c =
    either (beq s t) (round f s (a + b) c) (cond (ltb a b) (round f t (b - a) c) (round f (s && ltb b a) (a - b) c)) (round_number f s (a + b) c)
    (either (ltb a b) (round f t (b - a) c) (round f (s && ltb b a) (a - b) c) (round_number f t (b - a) c) (round_number f (s && ltb b a) (a - b) c))

-- a finite number added to a number that is no NaN
pub add-number : (x y : Float) → is_nan x ≡ false → finite y ≡ true → is_nan (x ⊕ y) ≡ false
unfolding add is_nan
add-number nan y h k = absurd (true≢false h)
add-number (inf s) nan h k = absurd (true≢false (sym k))
add-number (inf s) (inf t) h k = absurd (true≢false (sym k))
add-number (inf s) (fin t n d) h k = refl
add-number (fin s m e) nan h k = absurd (true≢false (sym k))
add-number (fin s m e) (inf t) h k = absurd (true≢false (sym k))
add-number (fin s m e) (fin t n d) h k = sum_number binary64 s (m * up e * down d) t (n * up d * down e) (down e * down d)
