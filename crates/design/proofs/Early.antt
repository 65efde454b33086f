-- The Rust answers p = 1 where n < max(5, k). Where there are more rows than columns, that is n < 5. Assumes nothing.
use mathlib.Core.Path.{◌≡◌}
use Prim.Native.Nat.{ℕ, ◌<◌, max}
use native.Mathlib.Decide.{dec_lt}
use native.Mathlib.Omega.{arith}
use lib.Dec.{ltb}
use borrow.Author.Tests.{lt-ltb, le-ltb}
use Rattle.design.specs.Law.{least_for_law, too_few_for_law}

pub early : (n k : ℕ) → k < n → ltb n (max least_for_law k) ≡ too_few_for_law n
early n k h = by (dec_lt n least_for_law)
  where
    by : Dec (n < least_for_law) → ltb n (max least_for_law k) ≡ ltb n least_for_law
    by (yes l) = rw (lt-ltb n (max least_for_law k) (omega arith), lt-ltb n least_for_law l)
    by (no l) = rw (le-ltb n (max least_for_law k) (omega arith), le-ltb n least_for_law (omega arith))
