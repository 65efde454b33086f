-- Sums of finite numbers, and what is made of them here, are no NaN: a sum can reach an infinity, and an infinity plus a finite number is that infinity. A number that is no NaN, clamped,
-- lies in [0, 1]. Assumes nothing.
use mathlib.Core.Path.{◌≡◌, refl, sym}
use mathlib.Core.Bool.{Bool, true, false, not, cond, true≢false}
use Prim.Native.Nat.{ℕ, zero, suc, ◌*◌, ◌<◌}
use native.Mathlib.Omega.{arith}
use lib.IntN.{ℤ, negsuc}
use lib.Dec.{eqb}
use lib.Ieee.{Float, nan, inf, fin, binary64, up, down, add, sub, neg, div, lt, eq, le, is_nan, unlike, of_bits}
use lib.Ieee.Scale.{finite}
use Rattle.floats.specs.Words.{◌⊖◌, ◌⊘◌, plus_zero, one}
use Rattle.floats.specs.Sums.{sum_of}
use Rattle.floats.proofs.Numbers.{round_number, sum_number, add-number}
use Rattle.floats.proofs.OrderLaws.{not-below}
use Rattle.elementary.specs.Patterns.{half}
use Rattle.imhof.specs.Imhof.{clamp_of, pi}

-- ---- no operation makes a NaN of what it is given here

sub_number : (x y : Float) → finite x ≡ true → is_nan y ≡ false → is_nan (x ⊖ y) ≡ false
unfolding sub add neg is_nan
sub_number nan y h k = absurd (true≢false (sym h))
sub_number (inf s) y h k = absurd (true≢false (sym h))
sub_number (fin s m e) nan h k = absurd (true≢false k)
sub_number (fin s m e) (inf t) h k = refl
sub_number (fin s m e) (fin t n d) h k = sum_number binary64 s (m * up e * down d) (not t) (n * up d * down e) (down e * down d)

-- a number divided by one that is neither 0 nor infinite
div-number : (x : Float) (t : Bool) (n : ℕ) (d : ℤ) → is_nan x ≡ false → eqb n 0 ≡ false → is_nan (x ⊘ fin t n d) ≡ false
unfolding div is_nan
div-number nan t n d h k = absurd (true≢false h)
div-number (inf s) t n d h k = refl
div-number (fin s m e) t n d h k = rw k (round_number binary64 (unlike s t) (m * up e * down d) (n * up d * down e))

-- a sum of finite numbers, first to last
pub sum-of-finite : (n : ℕ) (term : ℕ → Float) → ((t : ℕ) → t < n → finite (term t) ≡ true) → is_nan (sum_of n term) ≡ false
unfolding sum_of neg of_bits is_nan
sum-of-finite zero term h = refl
sum-of-finite (suc n) term h = add-number (sum_of n term) (term n) (sum-of-finite n term (λ t l. h t (omega arith))) (h n (omega arith))

-- pi as a fraction of a power of two
pi-value : pi ≡ fin false 884279719003555 (negsuc 47)
unfolding of_bits
pi-value = refl

-- 1/2 less a number over pi
pub by-pi : (x : Float) → is_nan x ≡ false → is_nan (half ⊖ x ⊘ pi) ≡ false
unfolding of_bits
by-pi x h = sub_number half (x ⊘ pi) refl (rw pi-value (div-number x false 884279719003555 (negsuc 47) h refl))

-- ---- the clamp

-- from 0 to 1
abbrev pub Within : Float → Type 0
Within y = (le plus_zero y ≡ true) × (le y one ≡ true)

capped : (y : Float) → le plus_zero y ≡ true → is_nan y ≡ false → Within (cond (lt one y) one y)
unfolding le lt eq is_nan of_bits
capped y l h = go (lt one y) (not-below one y refl h)
  where
    go : (b : Bool) → (b ≡ false → le y one ≡ true) → Within (cond b one y)
    go true k = (refl, refl)
    go false k = (l, k refl)

pub clamped-within : (x : Float) → is_nan x ≡ false → Within (clamp_of x)
unfolding clamp_of le lt eq is_nan of_bits
clamped-within x h = go (lt x plus_zero) (not-below x plus_zero h refl)
  where
    go : (b : Bool) → (b ≡ false → le plus_zero x ≡ true) → Within (cond (lt one (cond b plus_zero x)) one (cond b plus_zero x))
    go true k = capped plus_zero refl refl
    go false k = capped x (k refl) h
