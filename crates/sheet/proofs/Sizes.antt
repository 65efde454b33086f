-- How large numbers read from bytes can be: k bytes stand for a number below 256 ^ k, so that no size worked out from an entry wraps. Assumes nothing.
use Prim.Native.Nat.{ℕ, zero, suc, ◌+◌, ◌*◌, ◌^◌, ◌≤◌, ◌<◌}
use native.Mathlib.Nat.{pow-succ', mul-le-mul}
use native.Mathlib.Omega.{arith}
use mathlib.Core.List.{List}
use lib.Dec.{lit<}
use lib.ListN.{get_or}
use Rattle.floats.specs.Bits.{little_endian}

module _ (s : List ℕ) (bytes : (i : ℕ) → get_or s i 0 < 256) where
  pub bytes_below : (k i : ℕ) → little_endian k s i < 256 ^ k
  unfolding little_endian
  bytes_below zero i = lit< tt
  bytes_below (suc k) i = rw pow-succ' (fit (get_or s i 0) (little_endian k s (i + 1)) (256 ^ k) (bytes i) (bytes_below k (i + 1)))
    where
      fit : (a b c : ℕ) → a < 256 → b < c → a + 256 * b < 256 * c
      fit a b c h l = omega arith

-- rows of two bytes, and a positions byte
pub position-count-below : {n p : ℕ} → n < 65536 → p < 256 → n * p ≤ 16777216
position-count-below {n} {p} h l = mul-le-mul {n₁ = n} {m₁ = p} {n₂ = 65536} {m₂ = 256} (omega arith) (omega arith)

-- rows and columns of two bytes each
pub body-count-below : {n k : ℕ} → n < 65536 → k < 65536 → n * (k + 1) ≤ 4294967296
body-count-below {n} {k} h l = mul-le-mul {n₁ = n} {m₁ = k + 1} {n₂ = 65536} {m₂ = 65536} (omega arith) (omega arith)
