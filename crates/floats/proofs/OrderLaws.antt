-- The order of values: numbers above 0, one up to the next and the next below a third, what is not below another, and a number beside itself. The laws go by the three kinds of value. Assumes nothing.
use mathlib.Core.Path.{◌≡◌, refl, sym, subst}
use mathlib.Core.Logic.{⊎_elim}
use mathlib.Core.Bool.{Bool, true, false, ◌&&◌, ◌||◌, true≢false}
use Prim.Native.Nat.{ℕ, zero, suc, ◌+◌, ◌*◌, ◌≤◌, ◌<◌}
use native.Mathlib.Nat.{eq-or-lt_of_le, eq-zero-or-pos, le_of_eq, le_of_lt, not-le_of_lt, lt_of_not-le, lt_irrefl, zero-mul, mul-pos}
use native.Mathlib.Omega.{arith}
use borrow.Author.Tests.{ltb-false, lt-ltb, eq-eqb}
use lib.IntN.{ℤ, pos}
use lib.Dec.{T, ltb, eqb, ltb→lt, lt→ltb, eqb→eq}
use lib.Ieee.{Float, nan, inf, fin, up, down, lt, eq, le, below, level, is_nan, of_bits}
use lib.Ieee.Fits.{down_pos}
use lib.Ieee.Positive.{through}
use Rattle.floats.specs.Words.{plus_zero}
use Rattle.floats.specs.Signs.{minus}

-- a number above 0 has the sign plus
pub above-plus : (x : Float) → lt plus_zero x ≡ true → minus x ≡ false
unfolding minus lt of_bits
above-plus nan h = refl
above-plus (inf true) h = absurd (true≢false (sym h))
above-plus (inf false) h = refl
above-plus (fin true m e) h = absurd (true≢false (sym h))
above-plus (fin false m e) h = refl

-- sizes as fractions: x / p up to y / q and y / q below z / r make x / p below z / r
crossed : (x y z p q r : ℕ) → 0 < p → x * q ≤ y * p → y * r < z * q → x * r < z * p
crossed x y z p q r P h k = lt_of_not-le (λ (g : z * p ≤ x * r). not-le_of_lt k (through z x y r p q P g h))

pub cross-of : (a b : ℕ) → T (ltb a b || (eqb a b && true)) → a ≤ b
cross-of a b = go (ltb a b) (eqb a b) (ltb→lt a b) (eqb→eq a b)
  where
    go : (x y : Bool) → (T x → a < b) → (T y → a ≡ b) → T (x || (y && true)) → a ≤ b
    go true y f g h = le_of_lt (f tt)
    go false true f g h = le_of_eq (g tt)
    go false false f g h = absurd h

-- of numbers with the sign plus, p up to q and q below r make p below r
pub le-lt : (p q r : Float) → minus p ≡ false → minus q ≡ false → T (le p q) → T (lt q r) → T (lt p r)
unfolding minus le lt eq
le-lt nan q r P Q h k = absurd h
le-lt (inf true) q r P Q h k = absurd (true≢false P)
le-lt (inf false) nan r P Q h k = absurd h
le-lt (inf false) (inf true) r P Q h k = absurd h
le-lt (inf false) (inf false) r P Q h k = k
le-lt (inf false) (fin t n d) r P Q h k = absurd h
le-lt (fin true m e) q r P Q h k = absurd (true≢false P)
le-lt (fin false m e) nan r P Q h k = absurd h
le-lt (fin false m e) (inf true) r P Q h k = absurd h
le-lt (fin false m e) (inf false) nan P Q h k = absurd k
le-lt (fin false m e) (inf false) (inf t) P Q h k = absurd k
le-lt (fin false m e) (inf false) (fin t j c) P Q h k = absurd k
le-lt (fin false m e) (fin true n d) r P Q h k = absurd (true≢false Q)
le-lt (fin false m e) (fin false n d) nan P Q h k = absurd k
le-lt (fin false m e) (fin false n d) (inf t) P Q h k = k
le-lt (fin false m e) (fin false n d) (fin true j c) P Q h k = absurd k
le-lt (fin false m e) (fin false n d) (fin false j c) P Q h k =
    lt→ltb (m * up e * down c) (j * up c * down e)
    (crossed (m * up e) (n * up d) (j * up c) (down e) (down d) (down c) (down_pos e) (cross-of (m * up e * down d) (n * up d * down e) h)
    (ltb→lt (n * up d * down c) (j * up c * down d) k))

-- a number up to q is up to every r above q
pub up_to : (p q r : Float) → minus p ≡ false → minus q ≡ false → le p q ≡ true → lt q r ≡ true → le p r ≡ true
unfolding le lt
up_to p q r P Q h k = either (lt p r) (eq p r) (le-lt p q r P Q (subst T (sym h) tt) (subst T (sym k) tt))
  where
    either : (x y : Bool) → T x → x || y ≡ true
    either true y h = refl
    either false y h = absurd h

or-true : (x : Bool) → (x || true) ≡ true
or-true true = refl
or-true false = refl

at_most : (a b : ℕ) → ltb a b ≡ false → (ltb b a || (eqb b a && true)) ≡ true
at_most a b h = ⊎_elim (λ e. rw (eq-eqb b a e) (or-true (ltb b a))) (λ l. rw (lt-ltb b a l)) (eq-or-lt_of_le (ltb-false a b h))

ordered : (s : Bool) (a : ℕ) (t : Bool) (b : ℕ) → below s a t b ≡ false → (below t b s a || level t b s a) ≡ true
ordered false a false b h = at_most a b h
ordered true a true b h = ⊎_elim (λ e. rw (eq-eqb b a (sym e)) (or-true (ltb a b))) (λ l. rw (lt-ltb a b l)) (eq-or-lt_of_le (ltb-false b a h))
ordered false a true b h =
    ⊎_elim (λ z. let p : a ≡ 0 = omega arith in let q : b ≡ 0 = omega arith in rw (p, q)) (λ l. rw (lt-ltb 0 (b + a) l)) (eq-zero-or-pos (b + a))
ordered true a false b h =
    let l = ltb-false 0 (a + b) h in
    let p : a ≡ 0 = omega arith in
    let q : b ≡ 0 = omega arith in
    rw (p, q)

-- of two numbers that are no NaN, where the first is not below the second, the second is at most the first
pub not-below : (x y : Float) → is_nan x ≡ false → is_nan y ≡ false → lt x y ≡ false → le y x ≡ true
unfolding lt le eq is_nan
not-below nan y h k l = absurd (true≢false h)
not-below (inf s) nan h k l = absurd (true≢false k)
not-below (inf true) (inf true) h k l = refl
not-below (inf true) (inf false) h k l = absurd (true≢false l)
not-below (inf false) (inf true) h k l = refl
not-below (inf false) (inf false) h k l = refl
not-below (inf true) (fin t n d) h k l = absurd (true≢false l)
not-below (inf false) (fin t n d) h k l = refl
not-below (fin s m e) nan h k l = absurd (true≢false k)
not-below (fin s m e) (inf true) h k l = refl
not-below (fin s m e) (inf false) h k l = absurd (true≢false l)
not-below (fin s m e) (fin t n d) h k l = ordered s (m * up e * down d) t (n * up d * down e) l

-- a number is up to itself
pub le-self : (s : Bool) (m : ℕ) (e : ℤ) → le (fin s m e) (fin s m e) ≡ true
unfolding le lt eq
le-self s m e = go s
  where
    a : ℕ
    a = m * up e * down e

    go : (s : Bool) → (below s a s a || level s a s a) ≡ true
    go true = rw (eq-eqb a a refl) (or-true (ltb a a))
    go false = rw (eq-eqb a a refl) (or-true (ltb a a))

pub up-to-self : (x : Float) → is_nan x ≡ false → le x x ≡ true
unfolding is_nan le lt eq
up-to-self nan N = absurd (true≢false N)
up-to-self (inf true) N = refl
up-to-self (inf false) N = refl
up-to-self (fin s m e) N = le-self s m e

-- a number above 0 is no NaN
pub above-number : (x : Float) → lt plus_zero x ≡ true → is_nan x ≡ false
unfolding is_nan lt of_bits
above-number nan h = absurd (true≢false (sym h))
above-number (inf s) h = refl
above-number (fin s m e) h = refl

-- a number above 0 is not up to one with the sign minus
pub up-to-minus : (n j : ℕ) (d c : ℤ) → lt plus_zero (fin false n d) ≡ true → le (fin false n d) (fin true j c) ≡ true → ⊥
unfolding lt le eq of_bits
up-to-minus n j d c p h =
    lt_irrefl 0 (subst (λ (z : ℕ). 0 < z) (eqb→eq a 0 (second (eqb a (j * up c * down d)) (eqb a 0) h)) (mul-pos some (down_pos c)))
  where
    a : ℕ
    a = n * up d * down c

    some : 0 < n * up d
    some = let l = ltb→lt (0 * up (pos 0) * down d) (n * up d * down (pos 0)) (subst T (sym p) tt) in omega (arith, zero-mul (down d))

    second : (x y : Bool) → x && (false || y) ≡ true → T y
    second true true h = tt
    second true false h = absurd (true≢false (sym h))
    second false y h = absurd (true≢false (sym h))

-- a number with the sign plus that is below some number is 0 or above
pub from_zero : (x r : Float) → minus x ≡ false → T (lt x r) → le plus_zero x ≡ true
unfolding minus le lt eq of_bits
from_zero nan r P h = absurd h
from_zero (inf true) r P h = absurd (true≢false P)
from_zero (inf false) r P h = refl
from_zero (fin true m e) r P h = absurd (true≢false P)
from_zero (fin false m e) r P h = rw (zero-mul (down e)) (go (m * up e * down (pos 0)))
  where
    go : (a : ℕ) → ltb 0 a || (eqb 0 a && true) ≡ true
    go zero = refl
    go (suc a) = rw (lt-ltb 0 (suc a) (omega arith))
