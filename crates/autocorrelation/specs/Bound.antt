-- How far the computed statistic may lie from the exact one, in whole numbers, and the rules on sizes under which it is proved (document 01, demand 3).
-- A number is counted in units of 2^-1074, the least binary64 value above 0; a square, and a sum of squares, in units of 2^-2148.
-- Definitions only. Assumes nothing.
use Rattle.std.specs.Prelude.{ℕ, zero, suc, ◌+◌, ◌-◌, ◌*◌, ◌/◌, ◌^◌, ◌≤◌, ◌<◌, Bool, ◌&&◌, ◌||◌, cond, List, T, leb, eqb, ℤ, pos, neg_ℤ, nat_abs, ◌-ℤ◌, ◌*ℤ◌, length, Float, Result, Ok, Err}
use Rattle.std.specs.Float.{nan, inf, fin}
use Rattle.std.specs.Float.Ieee.{up, down, le}
use Rattle.std.specs.Float.Ieee.Scale.{finite}
use Rattle.floats.specs.Words.{◌‼◌, plus_zero}
use Rattle.floats.specs.Held.{all?, held?}
use Rattle.floats.specs.Limits.{max_rows}
use Rattle.autocorrelation.specs.declared.StatisticError.{StatisticError}
use Rattle.autocorrelation.specs.declared.StatisticError.TheVariants.{Empty, Single, NotFinite, ZeroSum, Overflow}

-- a with a sign: -a where s is true
abbrev pub signed : Bool → ℕ → ℤ
signed s a = cond s (neg_ℤ (pos a)) (pos a)

-- the exact value of a finite binary64 number in units of 2^-1074; the division leaves no rest
abbrev pub exact : Float → ℤ
exact nan = pos 0
exact (inf s) = pos 0
exact (fin s m e) = signed s (m * up e * 2 ^ 1074 / down e)

-- the exact e (t + 1) - e t
abbrev pub exact_difference : List Float → ℕ → ℤ
exact_difference e t = exact (e ‼ (t + 1)) -ℤ exact (e ‼ t)

-- z²
abbrev pub squared : ℤ → ℕ
squared z = nat_abs z * nat_abs z

-- term 0 + .. + term (n - 1), with no rounding
unfoldable pub exact_sum : ℕ → (ℕ → ℕ) → ℕ
exact_sum zero term = 0
exact_sum (suc t) term = exact_sum t term + term t

-- the exact sums of squares and of squared differences: the exact statistic is exact_differences e / exact_squares e
abbrev pub exact_squares : List Float → ℕ
exact_squares e = exact_sum (length e) (λ t. squared (exact (e ‼ t)))

abbrev pub exact_differences : List Float → ℕ
exact_differences e = exact_sum (length e - 1) (λ t. squared (exact_difference e t))

-- |x - y| ≤ (n + 2) / 2^52 · |y|
abbrev pub Near : ℕ → ℤ → ℤ → Type 0
Near n x y = nat_abs (x -ℤ y) * 2 ^ 52 ≤ (n + 2) * nat_abs y

-- d is finite, and |d - D| ≤ (n + 2) / 2^52 · D for D = SD / SS: d and D are both taken times SS and 2^1074
pub record Accurate (n : ℕ) (d : Float) (SD SS : ℕ) : Type 0 where
  pub is_finite : T (finite d)
  pub divisor : 0 < SS
  pub near : Near n (exact d *ℤ pos SS) (pos (SD * 2 ^ 1074))

-- ---- the rules, as tests that compute

-- z units are 0, or from 2^-k to 2^k in size
abbrev pub sized? : ℕ → ℤ → Bool
sized? k z = eqb (nat_abs z) 0 || (leb (2 ^ (1074 - k)) (nat_abs z) && leb (nat_abs z) (2 ^ (1074 + k)))

-- every number of e is 0, or from 2^-k to 2^k in size
abbrev pub numbers_sized? : ℕ → List Float → Bool
numbers_sized? k e = all? (length e) (λ t. sized? k (exact (e ‼ t)))

-- so is every exact difference of neighbours
abbrev pub differences_sized? : ℕ → List Float → Bool
differences_sized? k e = all? (length e - 1) (λ t. sized? k (exact_difference e t))

-- ---- what an answer promises besides its value

-- of a statistic d of the run e: binary64 holds the run, d is finite and not negative, and it is within the bound where the numbers and their differences are from 2^-250 to
-- 2^250 in size, or the numbers alone from 2^-220 to 2^220
pub record Sure (d : Float) (e : List Float) : Type 0 where
  pub held : T (held? e)
  pub is_finite : T (finite d)
  pub not_negative : T (le plus_zero d)
  pub accurate : length e ≤ max_rows → T (numbers_sized? 250 e) → T (differences_sized? 250 e) → Accurate (length e) d (exact_differences e) (exact_squares e)
  pub accurate-narrow : length e ≤ max_rows → T (numbers_sized? 220 e) → Accurate (length e) d (exact_differences e) (exact_squares e)

-- of every answer: where all residuals were found finite, binary64 holds the run
abbrev pub Told : Result Float StatisticError → List Float → Type 0
Told (Ok d) e = Sure d e
Told (Err Empty) e = Unit
Told (Err Single) e = Unit
Told (Err (NotFinite t)) e = Unit
Told (Err ZeroSum) e = T (held? e)
Told (Err Overflow) e = T (held? e)
