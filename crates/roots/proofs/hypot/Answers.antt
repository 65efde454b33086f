-- `hypot`: the larger and the smaller pattern, and `hypot-at`, which is the same for either order.
use Rattle.std.proofs.Common.{◌≡◌, ℕ, ◌*◌, ◌/◌, ◌%◌, ◌^◌, ◌≤◌, false, T, sym, ap, ◌∙◌, subst, inl, inr, arith, le_of_lt, max, min}
use native.Mathlib.Nat.{max-eq_left, max-eq_right, min-eq_left, min-eq_right}
use lib.Ieee.{Float, binary64, fits, is_nan, to_bits}
use Rattle.roots.specs.Root.{root_of}
use Rattle.roots.specs.Patterns.{top, square_sum}
use Rattle.roots.specs.Hypot.{hypot_of}
use Rattle.roots.proofs.Ladder.{known}
use Rattle.roots.proofs.Cases.{number-below, squares-swap, hypot-at}
use Rattle.roots.proofs.Squares.{side}
use Rattle.roots.proofs.hypot.Goals as goal

-- the pattern, twice as large
abbrev doubled : Float → ℕ
doubled x = to_bits binary64 x * 2 % 2 ^ 64

within : (x : Float) → T (fits binary64 x) → is_nan x ≡ false → doubled x ≤ 2 * top
within x held number = omega (arith, number-below x held number)

module _ (x y : Float) (held-x : T (fits binary64 x)) (held-y : T (fits binary64 y)) (number-x : is_nan x ≡ false) (number-y : is_nan y ≡ false) where
  abbrev p : ℕ
  p = doubled x

  abbrev q : ℕ
  q = doubled y

  root : hypot_of x y ≡ root_of (square_sum (p / 2) (q / 2))
  root =
      let e : to_bits binary64 x % 2 ^ 63 ≡ p / 2 = omega arith in
      let f : to_bits binary64 y % 2 ^ 63 ≡ q / 2 = omega arith in
      rw (e, f) at (hypot-at x y held-x held-y number-x number-y)

  root-of : hypot_of x y ≡ root_of (square_sum (max p q / 2) (min p q / 2))
  root-of = elim (side p q) [
    | inl h ↦ root ∙ ap root_of (squares-swap (p / 2) (q / 2)) ∙ rw (max-eq_right (le_of_lt h), min-eq_left (le_of_lt h))
    | inr h ↦ root ∙ rw (max-eq_left h, min-eq_right h)
  ]

  ordered : (min p q ≤ max p q) × (max p q ≤ 2 * top)
  ordered = elim (side p q) [
    | inl h ↦ rw (max-eq_right (le_of_lt h), min-eq_left (le_of_lt h)) (le_of_lt h, within y held-y number-y)
    | inr h ↦ rw (max-eq_left h, min-eq_right h) (h, within x held-x number-x)
  ]

pub sum_root-requires : goal.sum_root-requires
sum_root-requires c = rw (c.max.ensures, c.min.ensures) (ordered c.args.x c.args.y (subst T (sym c.well_formed.0.1) tt) (subst T (sym c.well_formed.1.0.1) tt) (sym c.is_nan.ensures.value ∙ c.if-is_nan.false) (sym c.is_nan-else-is_nan.ensures.value ∙ c.if-is_nan-2.false))

pub float_from_bits-result : goal.float_from_bits-result
float_from_bits-result c = known c.sum_root.result c.sum_root.ensures.number

pub returns : goal.returns
returns c = c.sum_root.ensures.value ∙ rw (c.max.ensures, c.min.ensures) (sym (root-of c.args.x c.args.y (subst T (sym c.well_formed.0.1) tt) (subst T (sym c.well_formed.1.0.1) tt) (sym c.is_nan.ensures.value ∙ c.if-is_nan.false) (sym c.is_nan-else-is_nan.ensures.value ∙ c.if-is_nan-2.false)))
