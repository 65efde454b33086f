-- m + b is not below m, for a finite m that binary64 holds and a b that is not negative. One idea: m is its own rounding, and rounding keeps the order. Assumes nothing.
use mathlib.Core.Path.{◌≡◌, refl, sym, ap, ◌∙◌}
use mathlib.Core.Logic.{⊎_elim}
use mathlib.Core.Bool.{Bool, true, false, ◌&&◌, ◌||◌, cond, true≢false}
use Prim.Native.Nat.{ℕ, zero, suc, ◌+◌, ◌-◌, ◌*◌, ◌%◌, ◌^◌, ◌≤◌, ◌<◌}
use native.Mathlib.Nat.{zero-mul, one-mul, mul-one, mul_assoc, mul_comm, mul_left_comm, mul_right_comm, mul-pos, sub-add_cancel, le_of_eq, lt_of_le_of_lt, lt_of_lt_of_le, not-le_of_lt, lt_of_mul-lt-mul_right, mul-lt-mul_of_pos_right, mul-le-mul_right, eq-or-lt_of_le}
use native.Mathlib.Omega.{arith}
use lib.IntN.{ℤ, pos, negsuc}
use lib.Dec.{T, ltb, leb, eqb, ltb→lt, leb→le, lit<}
use lib.Pow.{pow-add, pow_pos, pow-lt}
use borrow.Author.Tests.{ltb-true, eqb-true, lt-ltb, eq-eqb}
use lib.Ieee.{Float, nan, inf, fin, binary64, up, down, neg, odd, units, round, sum, add, lt, eq, le, fits}
use lib.Ieee.Bits.{is_true}
use lib.Ieee.Fits.{down_pos, and_l, and_r, round_is}
use lib.Ieee.Exact.{HasValue, round_exact}
use lib.Ieee.Order.{le_of_values, round_mono}
use lib.Ieee.Scale.{finite}
use lib.Ieee.Positive.{through}
use Rattle.floats.specs.Words.{◌⊕◌}

-- ---- signs of rounded fractions
-- an infinity or a number with the sign plus
pub data Plus : Float → Type 0 where
  wide : Plus (inf false)
  part : (m : ℕ) (e : ℤ) → Plus (fin false m e)

odd-plus : (d q k l : ℕ) → Plus (odd d false q k l)
unfolding odd
odd-plus d zero k l = part zero (pos zero)
odd-plus d (suc q) k l = part _ _

units-plus : (q k : ℕ) → Plus (units binary64 false q k)
unfolding units
units-plus q k = go (ltb (q * 2 ^ k) (2 ^ 2098))
  where
    go : (b : Bool) → Plus (cond b (odd 54 false q k 1074) (inf false))
    go true = odd-plus 54 q k 1074
    go false = wide

round-plus : (a c : ℕ) → Plus (round binary64 false a c)
round-plus a c = rw (round_is binary64 false a c) (units-plus _ _)

odd-minus : (d q k l : ℕ) → odd d true q k l ≡ neg (odd d false q k l)
unfolding odd neg
odd-minus d zero k l = refl
odd-minus d (suc q) k l = refl

units-minus : (q k : ℕ) → units binary64 true q k ≡ neg (units binary64 false q k)
unfolding units neg
units-minus q k = go (ltb (q * 2 ^ k) (2 ^ 2098))
  where
    go : (b : Bool) → cond b (odd 54 true q k 1074) (inf true) ≡ neg (cond b (odd 54 false q k 1074) (inf false))
    go true = odd-minus 54 q k 1074
    go false = refl

round-minus : (a c : ℕ) → round binary64 true a c ≡ neg (round binary64 false a c)
round-minus a c = rw (round_is binary64 true a c, round_is binary64 false a c) (units-minus _ _)

-- ---- a number that fits is its own rounding
exponent : (e : ℤ) (l : ℕ) → down e ≤ 2 ^ l → (j : ℕ) × (up e * 2 ^ l ≡ 2 ^ j * down e)
exponent (pos k) l h = (k + l, sym (pow-add 2 k l) ∙ sym (mul-one (2 ^ (k + l))))
exponent (negsuc k) l h = (l - suc k, one-mul (2 ^ l) ∙ sym (sym (pow-add 2 (l - suc k) (suc k)) ∙ ap (λ (x : ℕ). 2 ^ x) (sub-add_cancel within)))
  where
    within : suc k ≤ l
    within = let g : l < suc k → ⊥ = λ (g : l < suc k). not-le_of_lt (pow-lt g) h in omega arith

-- the sizes of a fraction m * u / w, of L units, over d
whole : (m u d L r w : ℕ) → u * L ≡ r * w → m * u * d * L ≡ m * r * (w * d)
whole m u d L r w h = simp (mul_assoc, mul_comm, mul_left_comm) (simp (mul_assoc, mul_comm, mul_left_comm) at (ap (λ (z : ℕ). z * (m * d)) h))

below : (m u L M r w : ℕ) → 0 < L → u * L ≡ r * w → m * u < M * w → m * r < M * L
below m u L M r w P h l =
    lt_of_mul-lt-mul_right w (lt_of_le_of_lt (le_of_eq (mul_assoc m r w ∙ ap (λ (z : ℕ). m * z) (sym h) ∙ sym (mul_assoc m u L)))
    (lt_of_lt_of_le (mul-lt-mul_of_pos_right l P) (le_of_eq (mul_right_comm M w L))))

own : (m : ℕ) (e : ℤ) (d : ℕ) (s : Bool) → 0 < d → T (fits binary64 (fin s m e)) → HasValue (round binary64 false (m * up e * d) (down e * d)) false (m * up e * d) (down e * d)
unfolding fits
own zero e d s D h =
    round_exact binary64 false (0 * up e * d) (down e * d) 0 0 (mul-pos (down_pos e) D) (lit< tt) (lit< tt)
    (rw (zero-mul (up e), zero-mul d) (sym (zero-mul (down e * d))))
own (suc m) e d s D h =
    let a : Bool = eqb (suc m % 2) 1 in
    let b : Bool = ltb (suc m) (2 ^ 53) in
    let c : Bool = leb (down e) (2 ^ 1074) in
    let f : Bool = ltb (suc m * up e) (2 ^ 1024 * down e) in
    let x = exponent e 1074 (leb→le (down e) (2 ^ 1074) (and_r (a && b) c (and_l (a && b && c) f h))) in
    round_exact binary64 false (suc m * up e * d) (down e * d) (suc m) x.0 (mul-pos (down_pos e) D)
    (ltb→lt (suc m) (2 ^ 53) (and_r a b (and_l (a && b) c (and_l (a && b && c) f h))))
    (below (suc m) (up e) (2 ^ 1074) (2 ^ 1024) (2 ^ x.0) (down e) (pow_pos 1074) x.1 (ltb→lt (suc m * up e) (2 ^ 1024 * down e) (and_r (a && b && c) f h)))
    (whole (suc m) (up e) d (2 ^ 1074) (2 ^ x.0) (down e) x.1)

-- ---- the order, by value
or-true : (a : Bool) → a || true ≡ true
or-true true = refl
or-true false = refl

says : (p r : ℕ) → T (ltb p r || (eqb p r && true)) → p ≤ r
says p r h = go (ltb p r) (eqb p r) refl refl h
  where
    go : (a b : Bool) → ltb p r ≡ a → eqb p r ≡ b → T (a || (b && true)) → p ≤ r
    go true b f g t = omega (arith, ltb-true p r f)
    go false true f g t = omega (arith, eqb-true p r g)
    go false false f g t = absurd t

-- numbers of one value stand alike to any other
le_from : (m : ℕ) (e : ℤ) (x y : Float) (a c : ℕ) → 0 < c → HasValue (fin false m e) false a c → HasValue x false a c → Plus y → T (le x y) → T (le (fin false m e) y)
unfolding le lt eq
le_from m e nan y a c C v w p h = absurd w
le_from m e (inf t) y a c C v w p h = absurd w
le_from m e (fin true n d) y a c C v w p h = absurd (true≢false w.0)
le_from m e (fin false n d) y a c C v w wide h = tt
le_from m e (fin false n d) y a c C v w (part q f) h =
    le_of_values (fin false m e) (fin false q f) a c (q * up f) (down f) C (down_pos f) v (refl, refl)
    (through a (n * up d) (q * up f) c (down d) (down f) (down_pos d) (le_of_eq (sym w.1)) (says (n * up d * down f) (q * up f * down d) h))

le-to : (m : ℕ) (e : ℤ) (x y : Float) (a c : ℕ) → 0 < c → HasValue (fin false m e) false a c → HasValue x false a c → Plus y → T (le y x) → T (le y (fin false m e))
unfolding le lt eq
le-to m e nan y a c C v w p h = absurd w
le-to m e (inf t) y a c C v w p h = absurd w
le-to m e (fin true n d) y a c C v w p h = absurd (true≢false w.0)
le-to m e (fin false n d) y a c C v w wide h = absurd h
le-to m e (fin false n d) y a c C v w (part q f) h =
    le_of_values (fin false q f) (fin false m e) (q * up f) (down f) a c (down_pos f) C (refl, refl) v
    (through (q * up f) (n * up d) a (down f) (down d) c (down_pos d) (says (q * up f * down d) (n * up d * down f) h) (le_of_eq w.1))

-- a number with the sign minus is below what has the sign plus, or both are 0
minus_plus : (m : ℕ) (e : ℤ) {y : Float} → Plus y → le (fin true m e) y ≡ true
unfolding le lt eq
minus_plus m e wide = refl
minus_plus m e (part q f) = go (m * up e * down f) (q * up f * down e)
  where
    go : (p r : ℕ) → ltb 0 (p + r) || (eqb p r && (false || eqb p 0)) ≡ true
    go zero zero = refl
    go zero (suc r) = rw (lt-ltb 0 (0 + suc r) (omega arith))
    go (suc p) r = rw (lt-ltb 0 (suc p + r) (omega arith))

-- the order turns with the signs
turned : (m : ℕ) (e : ℤ) {y : Float} → Plus y → T (le y (fin false m e)) → le (fin true m e) (neg y) ≡ true
unfolding le lt eq neg
turned m e wide h = absurd h
turned m e (part q f) h = go (m * up e * down f) (q * up f * down e) (says (q * up f * down e) (m * up e * down f) h)
  where
    go : (p r : ℕ) → r ≤ p → ltb r p || (eqb p r && (true || eqb p 0)) ≡ true
    go p r k = ⊎_elim (λ i. rw (eq-eqb p r (sym i)) (or-true (ltb r p))) (λ l. rw (lt-ltb r p l)) (eq-or-lt_of_le {n = r} {m = p} k)

-- ---- the sum
module _ (m : ℕ) (e : ℤ) (d : ℕ) (D : 0 < d) where
  abbrev A : ℕ
  A = m * up e * d

  abbrev C : ℕ
  C = down e * d

  C-pos : 0 < C
  C-pos = mul-pos (down_pos e) D

  value : HasValue (fin false m e) false A C
  value = (refl, simp (mul_assoc, mul_comm, mul_left_comm))

  grows : T (fits binary64 (fin false m e)) → (b : ℕ) → le (fin false m e) (round binary64 false (A + b) C) ≡ true
  grows h b = is_true _ (le_from m e (round binary64 false A C) (round binary64 false (A + b) C) A C C-pos value (own m e d false D h) (round-plus (A + b) C) (round_mono binary64 A C (A + b) C C-pos C-pos (mul-le-mul_right C (omega arith))))

  shrinks : T (fits binary64 (fin true m e)) → (b : ℕ) → le (fin true m e) (cond (ltb A b) (round binary64 false (b - A) C) (round binary64 (ltb b A) (A - b) C)) ≡ true
  shrinks h b = go (ltb A b) (ltb b A)
    where
      go : (x y : Bool) → le (fin true m e) (cond x (round binary64 false (b - A) C) (round binary64 y (A - b) C)) ≡ true
      go true y = minus_plus m e (round-plus (b - A) C)
      go false false = minus_plus m e (round-plus (A - b) C)
      go false true = rw (round-minus (A - b) C) (turned m e (round-plus (A - b) C) (le-to m e (round binary64 false A C) (round binary64 false (A - b) C) A C C-pos value (own m e d true D h) (round-plus (A - b) C) (round_mono binary64 (A - b) C A C C-pos C-pos (mul-le-mul_right C (omega arith)))))

pub not-below : (m b : Float) → finite m ≡ true → T (fits binary64 m) → Plus b → le m (m ⊕ b) ≡ true
unfolding add sum
not-below nan b f h p = absurd (true≢false (sym f))
not-below (inf s) b f h p = absurd (true≢false (sym f))
not-below (fin true m e) b f h wide = minus_plus m e wide
not-below (fin false m e) b f h wide = unfold le lt in refl
not-below (fin false m e) b f h (part n d) = grows m e (down d) (down_pos d) h (n * up d * down e)
not-below (fin true m e) b f h (part n d) = shrinks m e (down d) (down_pos d) h (n * up d * down e)
