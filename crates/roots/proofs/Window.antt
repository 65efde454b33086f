-- The root c of the leading digits s of a sum of squares M, as `near` gives it: where √M lies beside c and its neighbours, and that the two tests of `sum_root` are right (`root_below`).
-- `near` takes s, or s / 4 where s has a digit more. So M lies from n to below n + 3 units of 2 ^ 44 * W, for the number n that it takes and W = 4 ^ (d + places s), and `NearBelow` says how these two compare with c², c² + c and c² + 3 c + 2. Nothing here is about floats. Assumes nothing.
use Rattle.std.proofs.Common.{◌≡◌, ℕ, suc, ◌+◌, ◌*◌, ◌/◌, ◌^◌, ◌<◌, ◌≤◌, inl, inr, le_trans, lt_of_lt_of_le, mul-le-mul_right, arith, pow-add}
use Prim.Native.Nat.{Ordering}
use Rattle.roots.specs.Lines.{NearBelow}
use Rattle.roots.specs.Squares.{squares, Leading, rounded_at, RootBelow}
use Rattle.roots.proofs.Squares.{side, four-pos}
use Rattle.roots.proofs.Division.{digits-below}
use Rattle.roots.proofs.Rounding.{decided}

-- by how many places, of two digits of s, the root is longer than 53 digits: 0 or 1
abbrev pub places : ℕ → ℕ
places s = s / 2 ^ 62

-- what `near` takes of s
abbrev pub taken : ℕ → ℕ
taken s = s / 2 ^ (2 * places s)

-- n has s's leading digits, but for k places; what is left out of s, and 3 more, is less than 3 of its units
pub record Window (s k n : ℕ) : Type 0 where
  pub one : k ≤ 1
  pub from : 2 ^ 60 ≤ n
  pub below : n < 2 ^ 62
  pub low : n * 4 ^ k ≤ s
  pub high : s + 3 ≤ (n + 3) * 4 ^ k

-- ---- the window on s
module _ {m w d s : ℕ} (lead : Leading m w d s) where
  pub window : Window s (places s) (taken s)
  window =
      let from = lead.from in
      let below = lead.below in
      elim (side s (2 ^ 62)) [
        | inl h ↦ let z : places s ≡ 0 = omega arith in rw z (record { one = omega arith; from = omega arith; below = omega arith; low = omega arith; high = omega arith })
        | inr h ↦ let z : places s ≡ 1 = omega arith in rw z (record { one = omega arith; from = omega arith; below = omega arith; low = omega arith; high = omega arith })
      ]

-- ---- and the root in it
module _ {m w d s c base test : ℕ} (lead : Leading m w d s) (near : NearBelow (taken s) c base test) where
  abbrev M : ℕ
  M = squares m w d

  abbrev n : ℕ
  n = taken s

  abbrev W : ℕ
  W = 4 ^ (d + places s)

  wide : W ≡ 4 ^ d * 4 ^ places s
  wide = pow-add 4 d (places s)

  least : n * 2 ^ 44 * W ≤ M
  least = le_trans (rw wide (omega (arith, mul-le-mul_right (2 ^ 44 * 4 ^ d) (window lead).low))) lead.low

  most : M < (n + 3) * 2 ^ 44 * W
  most = lt_of_lt_of_le lead.high (rw wide (omega (arith, mul-le-mul_right (2 ^ 44 * 4 ^ d) (window lead).high)))

  -- M is above the middle of c and c + 1
  goes-up : base < test → rounded_at m w d c (places s) ≡ suc c
  goes-up h =
      let g : c * c + c + 1 ≤ n * 2 ^ 44 = omega (arith, near.apart) in
      let some : 0 < W = four-pos (d + places s) in
      rw (decided (4 * M) ((2 * c + 1) * (2 * c + 1) * W) Ordering.gt (omega (arith, least, mul-le-mul_right W g)))

  -- M is below it, though it be 3 units more than s says
  goes_down : test + 3 * 2 ^ 44 ≤ base → rounded_at m w d c (places s) ≡ c
  goes_down h =
      let g : (n + 3) * 2 ^ 44 ≤ c * c + c = omega (arith, near.apart) in
      rw (decided (4 * M) ((2 * c + 1) * (2 * c + 1) * W) Ordering.lt (omega (arith, most, mul-le-mul_right W g)))

  pub root_below : RootBelow m w d c (places s) base test
  root_below = record {
    one = (window lead).one;
    few = digits-below (window lead).below near;
    from = le_trans (omega (arith, mul-le-mul_right (2 ^ 44 * W) (window lead).from)) least;
    low = le_trans (mul-le-mul_right W near.low) least;
    high = omega (arith, most, mul-le-mul_right W near.high);
    up = goes-up;
    down = goes_down;
  }
