-- What it is to be the correctly rounded root, said with no algorithm: by whole-number squares.
-- Values are counted in units of the smallest value, 2 ^ -1074.
-- Definitions only. Assumes nothing.
use Rattle.std.specs.Prelude.{◌≡◌, ℕ, ◌+◌, ◌-◌, ◌*◌, ◌%◌, ◌^◌, ◌<◌, ◌≤◌, Bool, true, false, ◌||◌, T, ◌≢◌, is_nan, to_bits, Float}
use Rattle.std.specs.Float.{nan, inf, binary64, float_is_infinite}
use Rattle.std.specs.Float.Ieee.{fits}
use Rattle.std.specs.Float.Ieee.Exact.{HasValue}
use Rattle.std.specs.Float.Ieee.Scale.{finite}
use Rattle.roots.specs.Root.{sqrt_of}
use Rattle.roots.specs.Hypot.{hypot_of}

-- y is a value of the format, not negative, of Y units
abbrev pub Holds : Float → ℕ → Type 0
Holds y Y = T (fits binary64 y) × HasValue y false Y (2 ^ 1074)

-- r, of R units, is the value of the format that is nearest to √n units.
-- For any other value y, √n lies on r's side of the middle of the two, (R + Y) / 2; both are doubled and squared.
-- Where √n is in the middle itself, r is the one whose bit pattern, and so whose last digit, is even.
pub record NearestRoot (n : ℕ) (r : Float) (R : ℕ) : Type 0 where
  pub holds : Holds r R
  pub above : (y : Float) (Y : ℕ) → Holds y Y → R < Y → 4 * n ≤ (R + Y) * (R + Y)
  pub below : (y : Float) (Y : ℕ) → Holds y Y → Y < R → (R + Y) * (R + Y) ≤ 4 * n
  pub even : (y : Float) (Y : ℕ) → Holds y Y → (Y ≢ R) → (R + Y) * (R + Y) ≡ 4 * n → to_bits binary64 r % 2 ≡ 0

-- ---- the square root

-- At every value x above zero, of a units, `sqrt_of x` is the nearest to the root of x. (proofs/Nearest.antt: root-is-nearest)
abbrev pub RootIsNearest : Type 0
RootIsNearest = (x : Float) (a : ℕ) → Holds x a → 0 < a → (R : ℕ) × NearestRoot (a * 2 ^ 1074) (sqrt_of x) R

-- There is one nearest value. (proofs/Nearest.antt: nearest-is-one)
abbrev pub NearestIsOne : Type 0
NearestIsOne = (n : ℕ) (r s : Float) (R S : ℕ) → NearestRoot n r R → NearestRoot n s S → r ≡ s

-- ---- hypot

-- x is a finite value of A units, of either sign
pub record Sized (x : Float) (A : ℕ) : Type 0 where
  pub sign : Bool
  pub value : HasValue x sign A (2 ^ 1074)

-- Every finite value has such a number of units. (proofs/Nearest.antt: finite-is-sized)
abbrev pub FiniteIsSized : Type 0
FiniteIsSized = (x : Float) → T (fits binary64 x) → T (finite x) → (A : ℕ) × Sized x A

-- the square of the middle between the largest value, (2 ^ 53 - 1) * 2 ^ 2045 units, and 2 ^ 2098 units, which would come next: from there on the root is beyond the range
abbrev pub beyond : ℕ
beyond = (2 ^ 54 - 1) * 2 ^ 2044 * ((2 ^ 54 - 1) * 2 ^ 2044)

-- Of finite numbers of A and B units, `hypot_of` is the value nearest to √(A² + B²) units, where that is in the range. (proofs/Nearest.antt: hypot-is-nearest)
abbrev pub HypotIsNearest : Type 0
HypotIsNearest = (x y : Float) (A B : ℕ) → Sized x A → Sized y B → A * A + B * B < beyond → (R : ℕ) × NearestRoot (A * A + B * B) (hypot_of x y) R

-- Where it is beyond the range, `hypot_of` is +infinity. (proofs/Nearest.antt: hypot-overflows)
abbrev pub HypotOverflows : Type 0
HypotOverflows = (x y : Float) (A B : ℕ) → Sized x A → Sized y B → beyond ≤ A * A + B * B → hypot_of x y ≡ inf false

-- At an infinity it is +infinity, beside a NaN too; else at a NaN it is a NaN. (proofs/Nearest.antt: hypot-at-ends)
abbrev pub HypotAtEnds : Type 0
HypotAtEnds = (x y : Float) → ((float_is_infinite x || float_is_infinite y) ≡ true → hypot_of x y ≡ inf false) × ((float_is_infinite x || float_is_infinite y) ≡ false → (is_nan x || is_nan y) ≡ true → hypot_of x y ≡ nan)
