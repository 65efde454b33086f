-- Bytes past the end of a list count as 0: a number whose bytes all lie there is 0, and one that the end cuts short is that of its bytes before the end. Assumes nothing.
use Prim.Native.Nat.{ℕ, zero, suc, ◌+◌, ◌≤◌}
use native.Mathlib.Nat.{not-suc-le-zero, le_of_suc-le-suc}
use native.Mathlib.Omega.{arith}
use mathlib.Core.Path.{◌≡◌, refl}
use mathlib.Core.List.{List}
use lib.ListN.{length, get_or-eq_default}
use Rattle.floats.specs.Bits.{little_endian}

module _ (s : List ℕ) where
  pub past_end : (k i : ℕ) → length s ≤ i → little_endian k s i ≡ 0
  unfolding little_endian
  past_end zero i h = refl
  past_end (suc k) i h = rw (get_or-eq_default s 0 h, past_end k (i + 1) (omega arith))

  pub cut_short : (k n i : ℕ) → k ≤ n → length s ≤ i + k → little_endian n s i ≡ little_endian k s i
  unfolding little_endian
  cut_short zero n i l h = past_end n i (omega arith)
  cut_short (suc k) zero i l h = absurd (not-suc-le-zero l)
  cut_short (suc k) (suc n) i l h = rw (cut_short k n (i + 1) (le_of_suc-le-suc l) (omega arith))
