-- The square root of IEEE 754, correctly rounded, over the values of binary64 (lib.Ieee).
-- Everything is counted in units of the smallest value, 2 ^ -1074, so no fraction and no real number is needed: a value of a units has the root √(a * 2 ^ 1074) units, the root of a whole number.
-- Definitions only. Assumes nothing.
use Rattle.std.specs.Prelude.{◌≡◌, ℕ, zero, suc, ◌+◌, ◌-◌, ◌*◌, ◌/◌, ◌^◌, ◌<◌, ◌≤◌, true, false, cond, from_bits, nat_le, Float}
use Prim.Native.Nat.{compare}
use Rattle.std.specs.Float.{nan, inf, fin, binary64}
use Rattle.std.specs.Float.Ieee.{up, down, size, nearest, units}

-- q is the whole part of √n
pub record IsRoot (n q : ℕ) : Type 0 where
  pub low : q * q ≤ n
  pub high : n < (q + 1) * (q + 1)

-- That whole part, for an n below 4 ^ k: twice the root of n's leading digits, and one more where its square is not above n.
unfoldable pub root_in : ℕ → ℕ → ℕ
root_in zero n = 0
root_in (suc k) n = let r = 2 * root_in k (n / 4) in cond (nat_le ((r + 1) * (r + 1)) n) (r + 1) r

-- the largest q with q * q ≤ n
unfoldable pub isqrt : ℕ → ℕ
unfolding root_in size
isqrt n = root_in (suc (size n / 2)) n

-- The value nearest to √n units, a tie to the even one. Of the whole part of √n the format keeps the 53 leading digits, q, and drops k. So the result is
-- q * 2 ^ k units or the next multiple of 2 ^ k: by how √n compares with the middle of the two, (q + 1/2) * 2 ^ k, both doubled and squared.
unfoldable pub root_of : ℕ → Float
unfolding isqrt size units
root_of n =
    let w = isqrt n in
    let k = size w - 53 in
    let q = w / 2 ^ k in
    let mid = (2 * q + 1) * 2 ^ k in
    units binary64 false (nearest q (compare (4 * n) (mid * mid))) k

-- IEEE 754's squareRoot. The root of -0 is -0, and that of a number below 0 is no number. m * 2 ^ e is m * up e / down e.
unfoldable pub sqrt_of : Float → Float
unfolding root_of
sqrt_of nan = nan
sqrt_of (inf false) = inf false
sqrt_of (inf true) = nan
sqrt_of (fin s zero e) = fin s zero e
sqrt_of (fin false (suc m) e) = root_of (suc m * up e * 2 ^ 1074 / down e * 2 ^ 1074)
sqrt_of (fin true (suc m) e) = nan

-- c is the whole number nearest to √n: n lies between (c - 1/2)² and (c + 1/2)², neither of which is a whole number
pub record NearRoot (n c : ℕ) : Type 0 where
  pub low : c * c < n + c
  pub high : n ≤ c * c + c

-- r is the bits of the value nearest to √n units; they are no NaN's
pub record RootBits (n r : ℕ) : Type 0 where
  pub value : from_bits binary64 r ≡ root_of n
  pub number : r ≤ 0x7ff0_0000_0000_0000
