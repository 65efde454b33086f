-- The size that one comparison takes is |x| but for the sign of zero, and the test of a coupling sees no sign of zero. Assumes nothing.
use mathlib.Core.Path.{◌≡◌, refl, sym, ◌∙◌}
use mathlib.Core.Bool.{Bool, true, false, ◌&&◌, cond}
use Prim.Native.Nat.{ℕ, zero, suc, ◌+◌, ◌*◌, ◌<◌}
use native.Mathlib.Nat.{zero-mul, zero-add, sub-zero, mul-pos}
use native.Mathlib.Omega.{arith}
use borrow.Author.Tests.{lt-ltb}
use lib.Dec.{eqb, leb-suc-zero}
use lib.IntN.{ℤ, pos}
use lib.Ieee.{Float, nan, inf, fin, binary64, up, down, neg, lt, le, round, sum, add, mul, of_bits}
use lib.Ieee.Fits.{up_pos, down_pos}
use lib.Ieee.Scale.{round_same}
use Rattle.floats.specs.Words.{◌⊕◌, ◌⊗◌}
use Rattle.floats.specs.Signs.{abs_of}
use Rattle.floats.proofs.Commutes.{sum-swap}
use Rattle.ql.specs.Rotation.{epsilon, negligible}

abbrev pub size_of : Float → Float
size_of x = cond (lt x (neg x)) (neg x) x

-- what the size of x can be: |x|, and -0 at a zero
data Size : Float → Float → Type 0 where
  plain : {x : Float} → Size x (abs_of x)
  minus-zero : {s : Bool} {e : ℤ} → Size (fin s 0 e) (fin true 0 e)

sized : (x : Float) → Size x (size_of x)
unfolding lt neg abs_of
sized nan = plain
sized (inf true) = plain
sized (inf false) = plain
sized (fin false m e) = plain
sized (fin true zero e) = go (lt (fin true zero e) (neg (fin true zero e)))
  where
    go : (b : Bool) → Size (fin true zero e) (cond b (fin false zero e) (fin true zero e))
    go true = plain
    go false = minus-zero
sized (fin true (suc m) e) =
    let a = suc m * up e * down e in
    let h : 0 < a = mul-pos (mul-pos (omega arith) (up_pos e)) (down_pos e) in
    rw (lt-ltb 0 (a + a) (omega arith)) plain

nothing : (e d : ℤ) → 0 * up e * down d ≡ 0
nothing e d = rw (zero-mul (up e)) (zero-mul (down d))

-- ---- the coupling, left of the test

zero_left : (e : ℤ) (y : Float) → le (fin true 0 e) y ≡ le (fin false 0 e) y
unfolding le
zero_left e nan = refl
zero_left e (inf t) = refl
zero_left e (fin true n d) = rw (nothing e d, leb-suc-zero (n * up d * down e))
zero_left e (fin false n d) = rw (nothing e d, zero-add (n * up d * down e))

pub le-size : (x y : Float) → le (size_of x) y ≡ le (abs_of x) y
unfolding abs_of
le-size x y = go (sized x)
  where
    go : {x u : Float} → Size x u → le u y ≡ le (abs_of x) y
    go plain = refl
    go minus-zero = zero_left _ y

-- ---- the diagonal entries, right of it

zero_right : (x : Float) → le (abs_of x) (fin true 0 (pos 0)) ≡ le (abs_of x) (fin false 0 (pos 0))
unfolding le abs_of
zero_right nan = refl
zero_right (inf s) = refl
zero_right (fin s m e) = rw (zero-mul (down e), leb-suc-zero (m * up e * 1)) (twice (eqb (m * up e * 1) 0))
  where
    twice : (b : Bool) → b && b ≡ b && true
    twice true = refl
    twice false = refl

-- beside a size, also +0, the sign of zero is lost
sum-zero : (b c : ℕ) → sum binary64 true 0 false b c ≡ sum binary64 false 0 false b c
unfolding sum
sum-zero zero c = refl
sum-zero (suc b) c = rw (lt-ltb 0 (suc b) (omega arith), sub-zero (suc b), zero-add (suc b))

zero-plus : (e : ℤ) (y : Float) → fin true 0 e ⊕ abs_of y ≡ fin false 0 e ⊕ abs_of y
unfolding add abs_of
zero-plus e nan = refl
zero-plus e (inf t) = refl
zero-plus e (fin t n d) = rw (nothing e d) (sum-zero (n * up d * down e) (down e * down d))

plus-zero : (x : Float) (e : ℤ) → abs_of x ⊕ fin true 0 e ≡ abs_of x ⊕ fin false 0 e
plus-zero x e = sum-swap (abs_of x) (fin true 0 e) ∙ zero-plus e x ∙ sum-swap (fin false 0 e) (abs_of x)

-- two zeros keep it, and the test does not see it
round-nothing : (s : Bool) (e d : ℤ) → round binary64 s 0 (down e * down d) ≡ fin s 0 (pos 0)
unfolding round
round-nothing s e d = round_same binary64 s 0 (down e * down d) 0 1 (mul-pos (down_pos e) (down_pos d)) (omega arith) (sym (zero-mul (down e * down d)))

abbrev test : Float → Float → Bool
test x y = le (abs_of x) (epsilon ⊗ y)

zero-plus-zero : (x : Float) (e d : ℤ) → test x (fin true 0 e ⊕ fin true 0 d) ≡ test x (fin false 0 e ⊕ fin false 0 d)
unfolding mul of_bits add
zero-plus-zero x e d = rw (nothing e d, nothing d e, round-nothing true e d, round-nothing false e d) (zero_right x)

pub le-sizes : (x a b : Float) → test x (size_of a ⊕ size_of b) ≡ negligible x a b
unfolding abs_of negligible
le-sizes x a b = go (sized a) (sized b)
  where
    go : {a b u v : Float} → Size a u → Size b v → test x (u ⊕ v) ≡ test x (abs_of a ⊕ abs_of b)
    go plain plain = refl
    go plain minus-zero = rw plus-zero
    go minus-zero plain = rw zero-plus
    go minus-zero minus-zero = zero-plus-zero x _ _
