-- Bytes read from the last one down: one byte more makes the number 256 times as large and adds the byte. Assumes nothing.
use mathlib.Core.Path.{◌≡◌}
use Prim.Native.Nat.{ℕ, suc, ◌+◌, ◌-◌, ◌*◌, ◌^◌, ◌<◌, ◌≤◌}
use native.Mathlib.Nat.{pow-succ', pow-le-pow_right, lt_of_lt_of_le}
use native.Mathlib.Omega.{arith}
use mathlib.Core.List.{List}
use lib.Dec.{lit<}
use lib.ListN.{get_or}
use Rattle.floats.specs.Bits.{little_endian}

-- the k - t highest of k bytes, and the byte below them
pub byte_more : (t k i : ℕ) (s : List ℕ) → 0 < t → t ≤ k → little_endian (k - t) s (i + t) * 256 + get_or s (i + (t - 1)) 0 ≡ little_endian (k - (t - 1)) s (i + (t - 1))
unfolding little_endian
byte_more t k i s h l =
    let p : k - (t - 1) ≡ suc (k - t) = omega arith in
    let q : i + t ≡ i + (t - 1) + 1 = omega arith in
    rw (p, q) (swap (little_endian (k - t) s (i + (t - 1) + 1)) (get_or s (i + (t - 1)) 0))
  where
    swap : (a b : ℕ) → a * 256 + b ≡ b + 256 * a
    swap a b = omega arith

pub byte-bound : (n b t k : ℕ) → 0 < t → t ≤ k → n < 256 ^ (k - t) → b < 256 → n * 256 + b < 256 ^ (k - (t - 1))
byte-bound n b t k o l h m = let p : k - (t - 1) ≡ suc (k - t) = omega arith in rw (p, pow-succ') (fit (256 ^ (k - t)) h)
  where
    fit : (c : ℕ) → n < c → n * 256 + b < 256 * c
    fit c l = omega arith

-- fewer than eight bytes leave room for one more
pub byte-room : (n t : ℕ) → n < 256 ^ t → t < 8 → n < 256 ^ 7
byte-room n t h k = lt_of_lt_of_le h (pow-le-pow_right (lit< tt) {j = 7} (omega arith))
