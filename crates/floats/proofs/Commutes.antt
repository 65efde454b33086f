-- A rounded sum and a rounded product do not depend on the order of their two operands. So v q' + q v' is symmetric to the bit. Assumes nothing.
use Prim.Native.Nat.{ℕ, ◌-◌, ◌*◌}
use native.Mathlib.Nat.{add_comm, mul_comm}
use native.Mathlib.Omega.{arith}
use mathlib.Core.Path.{◌≡◌, refl, sym}
use mathlib.Core.Logic.{inl, inr}
use mathlib.Core.Bool.{Bool, true, false}
use borrow.Author.Tests.{lt-ltb, le-ltb}
use lib.Ieee.{Float, nan, inf, fin, binary64, up, down, unlike, sum, add, mul}
use Rattle.floats.specs.Words.{◌⊕◌, ◌⊗◌}
use Rattle.floats.proofs.MatrixLaws.{lt-or-le}

-- ---- sums

-- ±a and ±b, of unlike signs
sum-unlike : (a b c : ℕ) → sum binary64 true a false b c ≡ sum binary64 false b true a c
unfolding sum
sum-unlike a b c = elim (lt-or-le a b) [
  | inl h ↦ rw (lt-ltb a b h, le-ltb b a (omega arith))
  | inr h ↦ elim (lt-or-le b a) [ inl g ↦ rw (le-ltb a b h, lt-ltb b a g) | inr g ↦ let e : a - b ≡ b - a = omega arith in rw (le-ltb a b h, le-ltb b a g, e) ]
]

sum-signs : (s t : Bool) (a b c : ℕ) → sum binary64 s a t b c ≡ sum binary64 t b s a c
unfolding sum
sum-signs true true a b c = rw (add_comm a b)
sum-signs true false a b c = sum-unlike a b c
sum-signs false true a b c = sym (sum-unlike b a c)
sum-signs false false a b c = rw (add_comm a b)

pub sum-swap : (x y : Float) → x ⊕ y ≡ y ⊕ x
unfolding add
sum-swap nan nan = refl
sum-swap nan (inf t) = refl
sum-swap nan (fin t n d) = refl
sum-swap (inf s) nan = refl
sum-swap (inf true) (inf true) = refl
sum-swap (inf true) (inf false) = refl
sum-swap (inf false) (inf true) = refl
sum-swap (inf false) (inf false) = refl
sum-swap (inf s) (fin t n d) = refl
sum-swap (fin s m e) nan = refl
sum-swap (fin s m e) (inf t) = refl
sum-swap (fin s m e) (fin t n d) = rw (mul_comm (down d) (down e)) (sum-signs s t (m * up e * down d) (n * up d * down e) (down e * down d))

-- ---- products

unlike-swap : (s t : Bool) → unlike s t ≡ unlike t s
unlike-swap true true = refl
unlike-swap true false = refl
unlike-swap false true = refl
unlike-swap false false = refl

pub product-swap : (x y : Float) → x ⊗ y ≡ y ⊗ x
unfolding mul
product-swap nan nan = refl
product-swap nan (inf t) = refl
product-swap nan (fin t n d) = refl
product-swap (inf s) nan = refl
product-swap (inf s) (inf t) = rw (unlike-swap s t)
product-swap (inf s) (fin t n d) = rw (unlike-swap s t)
product-swap (fin s m e) nan = refl
product-swap (fin s m e) (inf t) = rw (unlike-swap s t)
product-swap (fin s m e) (fin t n d) = rw (unlike-swap s t, mul_comm (m * up e) (n * up d), mul_comm (down e) (down d))
