-- The finite values that are not negative, as a ladder: the bit pattern b stands for `units_of b` units, and the next pattern for the next value up.
-- So an order of values is an order of patterns, and nothing lies between two neighbours. Assumes nothing.
use Rattle.std.proofs.Common.{◌≡◌, ℕ, zero, suc, ◌+◌, ◌-◌, ◌*◌, ◌/◌, ◌%◌, ◌^◌, ◌<◌, ◌≤◌, Bool, true, false, cond, not, T, eqb, ltb, leb, ◌⊎◌, sym, refl, ap, ◌∙◌, subst, inl, inr, lt_trans, le_of_eq, le_of_suc-le-suc, eq-or-lt_of_le, arith, pow_pos, le-ltb, ne_eqb, leb-false}
use native.Mathlib.Nat.{pow-succ', eq_of_mul-eq-mul_right}
use borrow.Author.Tests.{lt-leb, eqb-false}
use lib.Arith.{le→nltb}
use lib.Ieee.{Float, nan, inf, fin, binary64, down, odd, units, fits, nan_bits, of_fields, of_bits, to_bits}
use lib.Ieee.Fits.{down_pos, odd-fits, cond-fits, inf-fits}
use lib.Ieee.Bits.{of_bits-to_bits, to_bits-of_bits, of_bits-fits, nan_bits_is, nan_bits_above}
use lib.Ieee.Scale.{finite}
use lib.Ieee.Exact.{HasValue, units_val, odd_sign}
use Rattle.floats.specs.Signs.{minus}
use Rattle.floats.proofs.SignLaws.{sign_bit}
use Rattle.roots.specs.Patterns.{top, dropped, units_of}
use Rattle.roots.specs.Nearest.{Holds}
use Rattle.roots.proofs.Squares.{side}

-- q is a value's leading digits: all that the format has, or as many as there are
abbrev pub Leads : ℕ → ℕ → Type 0
Leads q k = (k ≡ 0) ⊎ (2 ^ 52 ≤ q)

pub leads : (b : ℕ) → Leads (b - dropped b * 2 ^ 52) (dropped b)
leads b = elim (side b (2 ^ 53)) [ inl h ↦ inl (omega arith) | inr h ↦ inr (omega arith) ]

-- the pattern k * 2 ^ 52 + q, also where q is rounded up to a power of two
pub place : (q k : ℕ) → Leads q k → q ≤ 2 ^ 53 → units_of (k * 2 ^ 52 + q) ≡ q * 2 ^ k
place q k l h = elim (eq-or-lt_of_le h) [ inl e ↦ carried e | inr g ↦ plain g ]
  where
    plain : q < 2 ^ 53 → units_of (k * 2 ^ 52 + q) ≡ q * 2 ^ k
    plain g =
        let e : dropped (k * 2 ^ 52 + q) ≡ k = elim l [ inl z ↦ omega arith | inr f ↦ omega arith ] in
        let d : k * 2 ^ 52 + q - k * 2 ^ 52 ≡ q = omega arith in
        rw (e, d)

    carried : q ≡ 2 ^ 53 → units_of (k * 2 ^ 52 + q) ≡ q * 2 ^ k
    carried g =
        let e : dropped (k * 2 ^ 52 + q) ≡ suc k = omega arith in
        let d : k * 2 ^ 52 + q - suc k * 2 ^ 52 ≡ 2 ^ 52 = omega arith in
        rw (e, d, g) (omega (arith, pow-succ' 2 k))

-- the next value has the next digits, or a carry
pub above : (b : ℕ) → units_of (suc b) ≡ (b - dropped b * 2 ^ 52 + 1) * 2 ^ dropped b
above b =
    let q = b - dropped b * 2 ^ 52 in
    let e : suc b ≡ dropped b * 2 ^ 52 + (q + 1) = omega arith in
    ap units_of e ∙ place (q + 1) (dropped b) (elim (leads b) [ inl z ↦ inl z | inr h ↦ inr (omega arith) ]) (omega arith)

next_up : (b : ℕ) → units_of b < units_of (suc b)
next_up b = rw (above b) (omega (arith, pow_pos (dropped b)))

pub rising : (b c : ℕ) → b < c → units_of b < units_of c
rising b zero h = absurd (omega arith)
rising b (suc c) h = elim (eq-or-lt_of_le (le_of_suc-le-suc h)) [ inl e ↦ rw e (next_up c) | inr g ↦ lt_trans (rising b c g) (next_up c) ]

-- ---- what a pattern is read as
of_bits_is : (b : ℕ) → of_bits binary64 b ≡ of_fields binary64 (leb (2 ^ 63) b) (b % 2 ^ 63 / 2 ^ 52) (b % 2 ^ 52)
unfolding of_bits
of_bits_is b = refl

-- b with its sign off is c
read : (b c x : ℕ) → b % 2 ^ 63 ≡ c → c < top → c / 2 ^ 52 ≡ x → of_bits binary64 b ≡ odd 53 (leb (2 ^ 63) b) (c - dropped c * 2 ^ 52) (dropped c) 1074
unfolding of_fields
read b c zero o u e =
    let q : b % 2 ^ 52 ≡ c - 0 = omega arith in
    of_bits_is b ∙ rw (o, e, q)
read b c (suc x) o u e =
    let k : suc x - 1 ≡ x = omega arith in
    let q : c - x * 2 ^ 52 ≡ 2 ^ 52 + b % 2 ^ 52 = omega arith in
    of_bits_is b ∙ rw (o, e, k, q, ne_eqb (suc x) 2047 (omega arith))

signed-value : (b : ℕ) → b % 2 ^ 63 < top → HasValue (of_bits binary64 b) (leb (2 ^ 63) b) (units_of (b % 2 ^ 63)) (2 ^ 1074)
signed-value b u = let c = b % 2 ^ 63 in rw (read b c (c / 2 ^ 52) refl u refl) (odd_sign 53 (leb (2 ^ 63) b) (c - dropped c * 2 ^ 52) (dropped c) 1074)

pattern-value : (b : ℕ) → b < top → HasValue (of_bits binary64 b) false (units_of b) (2 ^ 1074)
pattern-value b u =
    let e : b % 2 ^ 63 ≡ b = omega arith in
    rw (lt-leb (2 ^ 63) b (omega arith), e) at (signed-value b (omega arith))

-- ---- and which patterns are such values'
fields-finite : (s : Bool) (x t : ℕ) → T (finite (of_fields binary64 s x t)) → x ≡ 2047 → ⊥
unfolding of_fields
fields-finite s zero t h = omega arith
fields-finite s (suc x) t h = go (eqb (suc x) 2047) refl (eqb t 0) h
  where
    go : (a : Bool) → eqb (suc x) 2047 ≡ a → (b : Bool) → T (finite (cond a (cond b (inf s) nan) (odd 53 s (2 ^ 52 + t) x 1074))) → suc x ≡ 2047 → ⊥
    go true e true h = absurd h
    go true e false h = absurd h
    go false e b h = eqb-false (suc x) 2047 e

pub size_below : (x : Float) → T (fits binary64 x) → T (finite x) → to_bits binary64 x % 2 ^ 63 < top
size_below x F h =
    let b = to_bits binary64 x in
    let f = fields-finite (leb (2 ^ 63) b) (b % 2 ^ 63 / 2 ^ 52) (b % 2 ^ 52) (rw (← of_bits_is b, of_bits-to_bits binary64 x F) h) in
    omega arith

pub below_top : (x : Float) → T (fits binary64 x) → T (finite x) → minus x ≡ false → to_bits binary64 x < top
below_top x F h m = let b = to_bits binary64 x in omega (arith, size_below x F h, leb-false (2 ^ 63) b (sign_bit x F ∙ m))

-- a finite value in units, by its pattern with the sign off
pub size-value : (x : Float) → T (fits binary64 x) → T (finite x) → let b = to_bits binary64 x in HasValue x (leb (2 ^ 63) b) (units_of (b % 2 ^ 63)) (2 ^ 1074)
size-value x F h =
    let b = to_bits binary64 x in
    subst (λ (v : Float). HasValue v (leb (2 ^ 63) b) (units_of (b % 2 ^ 63)) (2 ^ 1074)) (of_bits-to_bits binary64 x F) (signed-value b (size_below x F h))

signs : (v : Float) (a c : ℕ) → HasValue v false a c → T (finite v) × (minus v ≡ false)
unfolding minus
signs nan a c h = absurd h
signs (inf s) a c h = absurd h
signs (fin s m e) a c h = (tt, h.0)

-- a value below infinity's pattern, in units; and it has no other number of them
pub own_value : (x : Float) → T (fits binary64 x) → to_bits binary64 x < top → HasValue x false (units_of (to_bits binary64 x)) (2 ^ 1074)
own_value x F u = subst (λ (v : Float). HasValue v false (units_of (to_bits binary64 x)) (2 ^ 1074)) (of_bits-to_bits binary64 x F) (pattern-value (to_bits binary64 x) u)

own-units : (v : Float) (a b : ℕ) → HasValue v false a (2 ^ 1074) → HasValue v false b (2 ^ 1074) → a ≡ b
own-units nan a b h k = absurd h
own-units (inf t) a b h k = absurd h
own-units (fin t m e) a b h k = eq_of_mul-eq-mul_right (down e) (down_pos e) a b (sym h.1 ∙ k.1)

-- a value of the format that is not negative, by its pattern
pub record Rung (y : Float) (Y b : ℕ) : Type 0 where
  pub below : b < top
  pub value : y ≡ of_bits binary64 b
  pub units : Y ≡ units_of b

pub rung : (y : Float) (Y : ℕ) → Holds y Y → Rung y Y (to_bits binary64 y)
rung y Y h =
    let v = signs y Y (2 ^ 1074) h.1 in
    let u = below_top y h.0 v.0 v.1 in
    record { below = u; value = sym (of_bits-to_bits binary64 y h.0); units = own-units y Y (units_of (to_bits binary64 y)) h.1 (own_value y h.0 u) }

-- back: each pattern below infinity's is such a value's, and is written as it was read
pub holds : (b : ℕ) → b < top → Holds (of_bits binary64 b) (units_of b)
holds b u = (of_bits-fits binary64 b, pattern-value b u)

pub known : (b : ℕ) → b ≤ top → T (not (nan_bits binary64 b))
known b u = rw (nan_bits_above binary64 b) (le→nltb top (b % 2 ^ 63) (omega arith))

pub written : (b : ℕ) → b < top → to_bits binary64 (of_bits binary64 b) ≡ b
written b u = to_bits-of_bits binary64 b (omega arith) (rw (← nan_bits_is binary64 b) (known b (omega arith)))

-- one value of so many units
pub level : (b c : ℕ) → units_of b ≡ units_of c → b ≡ c
level b c e =
    let l : b < c → ⊥ = λ h. omega (arith, rising b c h) in
    let g : c < b → ⊥ = λ h. omega (arith, rising c b h) in
    omega arith

same : (y z : Float) (Y : ℕ) → Holds y Y → Holds z Y → y ≡ z
same y z Y h k =
    let r = rung y Y h in
    let s = rung z Y k in
    r.value ∙ ap (of_bits binary64) (level (to_bits binary64 y) (to_bits binary64 z) (sym r.units ∙ s.units)) ∙ sym s.value

-- ---- `units`, which rounding ends in, as a pattern: infinity's from 2 ^ 2098 units on
pub endless : of_bits binary64 top ≡ inf false
unfolding of_bits
endless = refl

pub units-beyond : (q k : ℕ) → 2 ^ 2098 ≤ q * 2 ^ k → units binary64 false q k ≡ inf false
unfolding units
units-beyond q k h = rw (le-ltb (q * 2 ^ k) (2 ^ 2098) h)

pub units-rung : (q k : ℕ) → Leads q k → q ≤ 2 ^ 53 → k * 2 ^ 52 + q ≤ top → units binary64 false q k ≡ of_bits binary64 (k * 2 ^ 52 + q)
units-rung q k l h u = elim (eq-or-lt_of_le u) [ inl e ↦ last e | inr g ↦ within g ]
  where
    last : k * 2 ^ 52 + q ≡ top → units binary64 false q k ≡ of_bits binary64 (k * 2 ^ 52 + q)
    last e = units-beyond q k (le_of_eq (sym (ap units_of e) ∙ place q k l h)) ∙ sym endless ∙ ap (of_bits binary64) (sym e)

    units-fits : q * 2 ^ k < 2 ^ 2098 → T (fits binary64 (units binary64 false q k))
    units-fits r = unfold units in cond-fits binary64 (ltb (q * 2 ^ k) (2 ^ 2098)) (odd 54 false q k 1074) (inf false) (odd-fits binary64 54 false q k (omega arith) h r) (inf-fits binary64 false)

    within : k * 2 ^ 52 + q < top → units binary64 false q k ≡ of_bits binary64 (k * 2 ^ 52 + q)
    within g =
        let b = k * 2 ^ 52 + q in
        let r : q * 2 ^ k < 2 ^ 2098 = rw (place q k l h) at (rising b top g) in
        same (units binary64 false q k) (of_bits binary64 b) (q * 2 ^ k) (units-fits r, units_val binary64 false q k r) (rw (place q k l h) at (holds b g))
