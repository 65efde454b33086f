-- What a clamped tail t can be, and that 1 - t lies in 0 .. 1. The one idea: t is +0, 1/2 or a fraction below 1/2, and rounding keeps the order, so 1 - t rounds to no
-- less than 0 and no more than 1. Assumes nothing.
use Rattle.std.proofs.Common.{◌≡◌, ℕ, ◌-◌, ◌*◌, ◌<◌, ◌≤◌, Bool, true, false, cond, T, ltb, ℤ, pos, refl, zero-mul, arith, lit<, ltb→lt}
use lib.Ieee.{Float, nan, inf, fin, binary64, up, down, size, odd, units, round, sum, add, sub, neg, lt, le, is_nan, of_bits}
use lib.Ieee.Fits.{down_pos}
use lib.Ieee.Bits.{is_true}
use lib.Ieee.Exact.{HasValue}
use lib.Ieee.Order.{le_of_values, round_mono}
use Rattle.floats.specs.Words.{◌⊖◌, plus_zero, one}
use Rattle.elementary.specs.Tails.{clamped}
use Rattle.elementary.specs.Patterns.{half}
use Rattle.elementary.specs.Bounds.{Within}
use Rattle.elementary.proofs.Leaning.{leans-number, round-leans}

-- +0, a fraction above 0 and below 1/2, or 1/2
pub data Small : Float → Type 0 where
  none : Small plus_zero
  some : (m : ℕ) (e : ℤ) → m * up e * 2 < down e → Small (fin false m e)
  most : Small half

pub clamped-small : (t : Float) → Small (clamped t)
unfolding lt of_bits
clamped-small nan = none
clamped-small (inf true) = none
clamped-small (inf false) = most
clamped-small (fin true m e) = none
clamped-small (fin false m e) = go (ltb (0 * up (pos 0) * down e) (m * up e * down (pos 0))) (ltb (m * up e * 2) (1 * 1 * down e)) (ltb→lt (m * up e * 2) (1 * 1 * down e))
  where
    go : (a b : Bool) → (T b → m * up e * 2 < 1 * 1 * down e) → Small (cond a (cond b (fin false m e) half) plus_zero)
    go false b h = none
    go true false h = most
    go true true h = some m e (omega (arith, h tt))

-- ---- 1 less a clamped tail: 0 and 1 are rounded fractions
pub zero-rounded : round binary64 false 0 1 ≡ plus_zero
unfolding round units odd size of_bits
zero-rounded = refl

pub one-rounded : round binary64 false 1 1 ≡ one
unfolding round units odd size of_bits
one-rounded = refl

-- a fraction from 0 to 1 rounds to a number from 0 to 1
pub fraction-within : (a c : ℕ) → 0 < c → a ≤ c → Within plus_zero one (round binary64 false a c)
fraction-within a c C h = record {
  number = leans-number (round-leans false a c);
  from = is_true (le plus_zero (round binary64 false a c)) (rw zero-rounded at (round_mono binary64 0 1 a c (lit< tt) C (omega (arith, zero-mul c))));
  to = is_true (le (round binary64 false a c) one) (rw one-rounded at (round_mono binary64 a c 1 1 C (lit< tt) (omega arith)));
}

-- 1 less a fraction
rest-is : (m : ℕ) (e : ℤ) → m * up e * 2 < down e → one ⊖ fin false m e ≡ round binary64 false (1 * 1 * down e - m * up e * 1) (1 * down e)
unfolding sub add neg sum of_bits
rest-is m e h = go (ltb (1 * 1 * down e) (m * up e * 1)) (ltb→lt (1 * 1 * down e) (m * up e * 1))
  where
    go : (b : Bool) → (T b → 1 * 1 * down e < m * up e * 1)
        → cond b (round binary64 true (m * up e * 1 - 1 * 1 * down e) (1 * down e)) (round binary64 false (1 * 1 * down e - m * up e * 1) (1 * down e)) ≡ round binary64 false (1 * 1 * down e - m * up e * 1) (1 * down e)
    go true k = absurd (omega (arith, k tt))
    go false k = refl

pub rest-within : (t : Float) → Small t → Within plus_zero one (one ⊖ t)
unfolding sub add neg sum round units odd size of_bits is_nan le
rest-within t none = record { number = refl; from = refl; to = refl }
rest-within t (some m e h) = rw (rest-is m e h) (fraction-within (1 * 1 * down e - m * up e * 1) (1 * down e) (omega (arith, down_pos e)) (omega arith))
rest-within t most = record { number = refl; from = refl; to = refl }

-- ---- a clamped tail lies in 0 .. 1/2, and so in 0 .. 1
value : (m : ℕ) (e : ℤ) → HasValue (fin false m e) false (m * up e) (down e)
value m e = (refl, refl)

zero-value : HasValue plus_zero false 0 1
unfolding of_bits
zero-value = (refl, refl)

half-value : HasValue half false 1 2
unfolding of_bits
half-value = (refl, refl)

one_value : HasValue one false 1 1
unfolding of_bits
one_value = (refl, refl)

some-within : (m : ℕ) (e : ℤ) (hi : Float) (b c : ℕ) → 0 < c → HasValue hi false b c → m * up e * c ≤ b * down e → Within plus_zero hi (fin false m e)
unfolding is_nan
some-within m e hi b c C v h = record {
  number = refl;
  from = is_true (le plus_zero (fin false m e)) (le_of_values plus_zero (fin false m e) 0 1 (m * up e) (down e) (lit< tt) (down_pos e) zero-value (value m e) (omega (arith, zero-mul (down e))));
  to = is_true (le (fin false m e) hi) (le_of_values (fin false m e) hi (m * up e) (down e) b c (down_pos e) C (value m e) v h);
}

pub within-half : (t : Float) → Small t → Within plus_zero half t
unfolding is_nan le of_bits
within-half t none = record { number = refl; from = refl; to = refl }
within-half t (some m e h) = some-within m e half 1 2 (lit< tt) half-value (omega arith)
within-half t most = record { number = refl; from = refl; to = refl }

pub within-one : (t : Float) → Small t → Within plus_zero one t
unfolding is_nan le of_bits
within-one t none = record { number = refl; from = refl; to = refl }
within-one t (some m e h) = some-within m e one 1 1 (lit< tt) one_value (omega arith)
within-one t most = record { number = refl; from = refl; to = refl }
