-- A value's sign and size, by std's words and by its bit pattern, and the total order. Each law goes by the three kinds of value. Assumes nothing.
use mathlib.Core.Path.{◌≡◌, refl, sym, ap, ◌∙◌, subst}
use mathlib.Core.Bool.{Bool, true, false, not, ◌&&◌, ◌||◌, beq, cond, true≢false}
use Prim.Native.Nat.{ℕ, zero, suc, ◌+◌, ◌*◌, ◌%◌, ◌/◌, ◌^◌, ◌≤◌, ◌<◌}
use native.Mathlib.Nat.{lt_irrefl}
use native.Mathlib.Omega.{arith}
use lib.Dec.{T, ltb, leb, eqb, ltb→lt, eqb→eq, eqb_refl}
use lib.Arith.{le→nltb}
use lib.Ieee.{Float, nan, inf, fin, binary64, up, down, below, level, lt, eq, ne, is_nan, fits, of_bits, to_bits, of_fields, odd, top, hid, ones}
use lib.Ieee.Bits.{of_bits-to_bits, is_true, is_false}
use lib.Ieee.Compare.{differs_from_itself}
use lib.Ieee.Scale.{finite}
use Rattle.std.specs.Float.{float_with_sign, float_is_finite}
use Rattle.floats.specs.Signs.{minus, abs_of, before}

-- ---- std's words for a size and for a finite value

pub plain-sign : (x : Float) → float_with_sign false x ≡ abs_of x
unfolding float_with_sign abs_of
plain-sign nan = refl
plain-sign (inf s) = refl
plain-sign (fin s m e) = refl

pub finite-same : (x : Float) → float_is_finite x ≡ finite x
unfolding float_is_finite
finite-same nan = refl
finite-same (inf s) = refl
finite-same (fin s m e) = refl

-- ---- a bit pattern

-- a value that differs from itself is the NaN, and one that does not is none
pub nan-of : (x : Float) → eq x x ≡ false → x ≡ nan
unfolding ne
nan-of x h = differs_from_itself x (subst (λ (b : Bool). T (not b)) (sym h) tt)

pub no_nan : (x : Float) → eq x x ≡ true → T (not (is_nan x))
unfolding is_nan eq
no_nan nan h = absurd (true≢false (sym h))
no_nan (inf s) h = tt
no_nan (fin s m e) h = tt

pub differs : (x : Float) → ne x x ≡ is_nan x
unfolding ne is_nan eq
differs nan = refl
differs (inf true) = refl
differs (inf false) = refl
differs (fin true m e) = rw (is_true (eqb (m * up e * down e) (m * up e * down e)) (eqb_refl (m * up e * down e)))
differs (fin false m e) = rw (is_true (eqb (m * up e * down e) (m * up e * down e)) (eqb_refl (m * up e * down e)))

minus-odd : (d : ℕ) (s : Bool) (q k l : ℕ) → minus (odd d s q k l) ≡ s
unfolding minus odd
minus-odd d s zero k l = refl
minus-odd d s (suc q) k l = refl

minus-fields : (s : Bool) (x t : ℕ) (v : Float) → T (not (is_nan v)) → of_fields binary64 s x t ≡ v → minus (of_fields binary64 s x t) ≡ s
unfolding of_fields minus is_nan
minus-fields s zero t v n h = minus-odd 53 s t 0 1074
minus-fields s (suc x) t v n h = go (eqb (suc x) (ones binary64)) (eqb t 0) (subst (λ (w : Float). T (not (is_nan w))) (sym h) n)
  where
    go : (a b : Bool) → T (not (is_nan (cond a (cond b (inf s) nan) (odd 53 s (hid binary64 + t) x 1074)))) → minus (cond a (cond b (inf s) nan) (odd 53 s (hid binary64 + t) x 1074)) ≡ s
    go true true n = refl
    go true false n = absurd n
    go false b n = minus-odd 53 s (hid binary64 + t) x 1074

sign_of : (x : Float) → T (fits binary64 x) → T (not (is_nan x)) → leb (2 ^ 63) (to_bits binary64 x) ≡ minus x
unfolding of_bits
sign_of x f n =
    let b = to_bits binary64 x in
    let h : of_bits binary64 b ≡ x = of_bits-to_bits binary64 x f in
    sym (minus-fields (leb (top binary64) b) (b % top binary64 / hid binary64) (b % hid binary64) x n h) ∙ ap minus h

-- the sign is minus exactly where the pattern's highest bit is set
pub sign_bit : (x : Float) → T (fits binary64 x) → leb (2 ^ 63) (to_bits binary64 x) ≡ minus x
unfolding of_bits
sign_bit nan f = unfold to_bits minus in refl
sign_bit (inf s) f = sign_of (inf s) f (unfold is_nan in tt)
sign_bit (fin s m e) f = sign_of (fin s m e) f (unfold is_nan in tt)

-- ---- the total order

less : (a b : ℕ) → ltb a b ≡ true → a < b
less a b h = ltb→lt a b (subst T (sym h) tt)

no_less : (a b : ℕ) → a ≤ b → ltb b a ≡ false
no_less a b h = is_false (ltb b a) (le→nltb b a h)

unequal : (a b : ℕ) → (a ≡ b → ⊥) → eqb a b ≡ false
unequal a b h = go (eqb a b) (eqb→eq a b)
  where
    go : (x : Bool) → (T x → a ≡ b) → x ≡ false
    go true f = absurd (h (f tt))
    go false f = refl

-- of ±a below ±b and ±a level with ±b, each shuts the ways back out
below_one_way : (s t : Bool) (a b : ℕ) → below s a t b ≡ true → below t b s a ≡ false
below_one_way false false a b h = let l = less a b h in no_less a b (omega arith)
below_one_way false true a b h = absurd (true≢false (sym h))
below_one_way true false a b h = refl
below_one_way true true a b h = let l = less b a h in no_less b a (omega arith)

below-not-level : (s t : Bool) (a b : ℕ) → below s a t b ≡ true → level t b s a ≡ false
below-not-level false false a b h = let l = less a b h in rw (unequal b a (λ e. omega arith))
below-not-level false true a b h = absurd (true≢false (sym h))
below-not-level true false a b h = go (eqb b a) (eqb b 0) (eqb→eq b a) (eqb→eq b 0) (less 0 (a + b) h)
  where
    go : (x y : Bool) → (T x → b ≡ a) → (T y → b ≡ 0) → 0 < a + b → x && (false || y) ≡ false
    go true true p q l = let u = p tt in let v = q tt in absurd (lt_irrefl 0 (omega arith))
    go true false p q l = refl
    go false y p q l = refl
below-not-level true true a b h = let l = less b a h in rw (unequal b a (λ e. omega arith))

second : (x y : Bool) → x && (false || y) ≡ true → T y
second true true h = tt
second true false h = absurd (true≢false (sym h))
second false y h = absurd (true≢false (sym h))

both_true : (a b : Bool) → a && b ≡ true → T a
both_true true b h = tt
both_true false b h = absurd (true≢false (sym h))

level-not-below : (s t : Bool) (a b : ℕ) → level s a t b ≡ true → below t b s a ≡ false
level-not-below s t a b h = go s t (eqb→eq a b (both_true (eqb a b) (beq s t || eqb a 0) h)) h
  where
    go : (s t : Bool) → a ≡ b → level s a t b ≡ true → below t b s a ≡ false
    go false false e k = no_less a b (omega arith)
    go true true e k = no_less b a (omega arith)
    go false true e k = let z = eqb→eq a 0 (second (eqb a b) (eqb a 0) k) in no_less (b + a) 0 (omega arith)
    go true false e k = refl

lt-one-way : (x y : Float) → lt x y ≡ true → (lt y x ≡ false) × (eq y x ≡ false)
unfolding lt eq
lt-one-way nan y h = absurd (true≢false (sym h))
lt-one-way (inf s) nan h = absurd (true≢false (sym h))
lt-one-way (inf true) (inf true) h = absurd (true≢false (sym h))
lt-one-way (inf true) (inf false) h = (refl, refl)
lt-one-way (inf false) (inf t) h = absurd (true≢false (sym h))
lt-one-way (inf true) (fin t n d) h = (refl, refl)
lt-one-way (inf false) (fin t n d) h = absurd (true≢false (sym h))
lt-one-way (fin s m e) nan h = absurd (true≢false (sym h))
lt-one-way (fin s m e) (inf true) h = absurd (true≢false (sym h))
lt-one-way (fin s m e) (inf false) h = (refl, refl)
lt-one-way (fin s m e) (fin t n d) h =
    (below_one_way s t (m * up e * down d) (n * up d * down e) h, below-not-level s t (m * up e * down d) (n * up d * down e) h)

eq_not_lt : (x y : Float) → eq x y ≡ true → lt y x ≡ false
unfolding lt eq
eq_not_lt nan y h = absurd (true≢false (sym h))
eq_not_lt (inf s) nan h = absurd (true≢false (sym h))
eq_not_lt (inf true) (inf true) h = refl
eq_not_lt (inf true) (inf false) h = absurd (true≢false (sym h))
eq_not_lt (inf false) (inf true) h = absurd (true≢false (sym h))
eq_not_lt (inf false) (inf false) h = refl
eq_not_lt (inf s) (fin t n d) h = absurd (true≢false (sym h))
eq_not_lt (fin s m e) nan h = absurd (true≢false (sym h))
eq_not_lt (fin s m e) (inf t) h = absurd (true≢false (sym h))
eq_not_lt (fin s m e) (fin t n d) h = level-not-below s t (m * up e * down d) (n * up d * down e) h

-- no two numbers come before each other
pub before-one-way : (x y : Float) → before x y ≡ true → before y x ≡ false
before-one-way x y h = go (lt x y) (eq x y) (minus x) (minus y) (lt-one-way x y) (eq_not_lt x y) h
  where
    go : (l e s t : Bool) → (l ≡ true → (lt y x ≡ false) × (eq y x ≡ false)) → (e ≡ true → lt y x ≡ false) → l || (e && (s && not t)) ≡ true → lt y x || (eq y x && (t && not s)) ≡ false
    go true e s t p q h = rw ((p refl).0, (p refl).1)
    go false true true false p q h = rw (q refl) (ends (eq y x))
      where
        ends : (b : Bool) → b && false ≡ false
        ends true = refl
        ends false = refl
    go false true true true p q h = absurd (true≢false (sym h))
    go false true false t p q h = absurd (true≢false (sym h))
    go false false s t p q h = absurd (true≢false (sym h))
