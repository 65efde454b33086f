-- The operations on values that are whole numbers of units of 2^-1074: each is one `round` of the exact result in units. And every finite value
-- that binary64 holds is such a whole number, of 53 digits and some zeros. Assumes nothing.
use mathlib.Core.Path.{◌≡◌, refl, sym, ap, ◌∙◌, subst}
use Prim.Native.Nat.{ℕ, zero, suc, ◌+◌, ◌-◌, ◌*◌, ◌/◌, ◌%◌, ◌^◌, ◌≤◌, ◌<◌}
use native.Mathlib.Nat.{le_trans, le_of_eq, lt_of_le_of_lt, lt_of_lt_of_le, lt_irrefl, not-le_of_lt, zero-lt-suc, zero-mul, one-mul, mul_comm, mul_assoc, mul-one, mul_right_comm, mul-mul-mul_comm, mul-sub, mul-pos, mul-le-mul_right, mul-lt-mul_of_pos_right, le_of_mul-le-mul_right, lt_of_mul-lt-mul_right, eq_of_mul-eq-mul_right, mul-div_cancel, sub-add_cancel, sub-zero}
use native.Mathlib.Omega.{arith}
use mathlib.Core.Bool.{Bool, true, false, not, ◌&&◌, beq, cond, true≢false}
use lib.IntN.{ℤ, pos, negsuc, neg_ℤ, nat_abs, ◌+ℤ◌, ◌-ℤ◌, neg_ℤ-neg_ℤ, neg_ℤ-+ℤ}
use lib.Dec.{T, ltb, leb, eqb, ltb→lt, leb→le, nltb→le, eqb→eq, lit<}
use lib.Pow.{pow-add, pow_pos, pow-lt}
use borrow.Author.Tests.{eq-eqb, lt-ltb, le-ltb}
use lib.Ieee.{Float, nan, inf, fin, binary64, up, down, unlike, round, sum, add, sub, mul, div, neg, eq, fits, of_bits}
use lib.Ieee.Fits.{up_pos, down_pos, and_l, and_r}
use lib.Ieee.Exact.{round_exact}
use lib.Ieee.Scale.{round_same, finite}
use lib.Ieee.Positive.{first_pos}
use Rattle.floats.specs.Words.{◌⊕◌, ◌⊖◌, ◌⊗◌, ◌⊘◌, plus_zero, minus_zero}
use Rattle.autocorrelation.specs.Bound.{signed, exact}
use Rattle.autocorrelation.proofs.Rounding.{Valued}

-- ---- a / c and b / c are A / L and B / L
module _ (L : ℕ) (LP : 0 < L) where
  across : (x de dd A : ℕ) → x * L ≡ A * de → x * dd * L ≡ A * (de * dd)
  across x de dd A p = mul_right_comm x dd L ∙ ap (λ (z : ℕ). z * dd) p ∙ mul_assoc A de dd

  plus : (a b c A B : ℕ) → a * L ≡ A * c → b * L ≡ B * c → (a + b) * L ≡ (A + B) * c
  plus a b c A B p q = omega arith

  less : (a b c A B : ℕ) → a * L ≡ A * c → b * L ≡ B * c → (a - b) * L ≡ (A - B) * c
  less a b c A B p q = omega (arith, mul_comm (a - b) L, mul-sub L a b, mul_comm L a, mul_comm L b, mul_comm (A - B) c, mul-sub c A B, mul_comm c A, mul_comm c B)

  order : (a b c A B : ℕ) → 0 < c → a * L ≡ A * c → b * L ≡ B * c → ltb a b ≡ ltb A B
  order a b c A B C p q = go (ltb a b) (ltb→lt a b) (nltb→le a b)
    where
      go : (t : Bool) → (T t → a < b) → (T (not t) → b ≤ a) → t ≡ ltb A B
      go true h g = sym (lt-ltb A B (lt_of_mul-lt-mul_right c (lt_of_le_of_lt (le_of_eq (sym p)) (lt_of_lt_of_le (mul-lt-mul_of_pos_right (h tt) LP) (le_of_eq q)))))
      go false h g = sym (le-ltb A B (le_of_mul-le-mul_right (le_trans (le_of_eq (sym q)) (le_trans (mul-le-mul_right L (g tt)) (le_of_eq p))) C))

  sum_same : (s : Bool) (a : ℕ) (t : Bool) (b c A B : ℕ) → 0 < c → a * L ≡ A * c → b * L ≡ B * c → sum binary64 s a t b c ≡ sum binary64 s A t B L
  unfolding sum
  sum_same s a t b c A B C p q =
      rw (
        round_same binary64 s (a + b) c (A + B) L C LP (plus a b c A B p q),
        round_same binary64 t (b - a) c (B - A) L C LP (less b a c B A q p),
        round_same binary64 (s && ltb b a) (a - b) c (A - B) L C LP (less a b c A B p q),
        order a b c A B C p q,
        order b a c B A C q p,
      )

-- ---- sums and differences
add_is : (x y : Float) (s t : Bool) (A B : ℕ) → Valued x s A → Valued y t B → x ⊕ y ≡ sum binary64 s A t B (2 ^ 1074)
unfolding add
add_is nan y s t A B p q = absurd p
add_is (inf r) y s t A B p q = absurd p
add_is (fin r m e) nan s t A B p q = absurd q
add_is (fin r m e) (inf w) s t A B p q = absurd q
add_is (fin r m e) (fin w n d) s t A B p q =
    rw (← p.0, ← q.0)
    (sum_same (2 ^ 1074) (pow_pos 1074) r (m * up e * down d) w (n * up d * down e) (down e * down d) A B (mul-pos (down_pos e) (down_pos d))
    (across (2 ^ 1074) (pow_pos 1074) (m * up e) (down e) (down d) A p.1)
    (across (2 ^ 1074) (pow_pos 1074) (n * up d) (down d) (down e) B q.1 ∙ ap (λ (z : ℕ). B * z) (mul_comm (down d) (down e))))

-- of values that are not negative
pub plus-is : (x y : Float) (A B : ℕ) → Valued x false A → Valued y false B → x ⊕ y ≡ round binary64 false (A + B) (2 ^ 1074)
unfolding sum
plus-is x y A B p q = add_is x y false false A B p q

-- from -0
pub start_is : (x : Float) (A : ℕ) → Valued x false A → minus_zero ⊕ x ≡ round binary64 false A (2 ^ 1074)
start_is x A p = add_is minus_zero x true false 0 A below p ∙ from A
  where
    below : Valued minus_zero true 0
    below = unfold neg of_bits in (refl, refl)

    from : (A : ℕ) → sum binary64 true 0 false A (2 ^ 1074) ≡ round binary64 false A (2 ^ 1074)
    from zero = unfold sum in refl
    from (suc a) = unfold sum in rw (lt-ltb 0 (suc a) (zero-lt-suc a), sub-zero)

-- ---- the size of a difference
abs_neg : (z : ℤ) → nat_abs (neg_ℤ z) ≡ nat_abs z
abs_neg (pos zero) = refl
abs_neg (pos (suc n)) = refl
abs_neg (negsuc n) = refl

pub abs-minus : (A B : ℕ) → nat_abs (pos A -ℤ pos B) ≡ A - B + (B - A)
abs-minus A zero = omega arith
abs-minus A (suc b) = go (ltb A (suc b)) (ltb→lt A (suc b)) (nltb→le A (suc b))
  where
    go : (t : Bool) → (T t → A < suc b) → (T (not t) → suc b ≤ A) → nat_abs (cond t (negsuc (suc b - suc A)) (pos (A - suc b))) ≡ A - suc b + (suc b - A)
    go true h g = omega (arith, h tt)
    go false h g = omega (arith, g tt)

-- of two numbers with signs: the sizes add up where the signs differ
size-apart : (s t : Bool) (A B : ℕ) → nat_abs (signed s A -ℤ signed t B) ≡ cond (beq s t) (A - B + (B - A)) (A + B)
size-apart false false A B = abs-minus A B
size-apart true true A B = ap nat_abs (sym (neg_ℤ-+ℤ (pos A) (neg_ℤ (pos B)))) ∙ abs_neg (pos A -ℤ pos B) ∙ abs-minus A B
size-apart false true A B = ap (λ (z : ℤ). nat_abs (pos A +ℤ z)) (neg_ℤ-neg_ℤ (pos B))
size-apart true false A B = ap nat_abs (sym (neg_ℤ-+ℤ (pos A) (pos B))) ∙ abs_neg (pos (A + B))

-- one less the other, with one sign or the other
apart : (A B : ℕ) (r w : Bool) → (k : Bool) × (cond (ltb A B) (round binary64 r (B - A) (2 ^ 1074)) (round binary64 w (A - B) (2 ^ 1074)) ≡ round binary64 k (A - B + (B - A)) (2 ^ 1074))
apart A B r w = go (ltb A B) (ltb→lt A B) (nltb→le A B)
  where
    go : (t : Bool) → (T t → A < B) → (T (not t) → B ≤ A) → (k : Bool) × (cond t (round binary64 r (B - A) (2 ^ 1074)) (round binary64 w (A - B) (2 ^ 1074)) ≡ round binary64 k (A - B + (B - A)) (2 ^ 1074))
    go true h g = (r, ap (λ (n : ℕ). round binary64 r n (2 ^ 1074)) (omega (arith, h tt)))
    go false h g = (w, ap (λ (n : ℕ). round binary64 w n (2 ^ 1074)) (omega (arith, g tt)))

difference : (s t : Bool) (A B : ℕ) → (k : Bool) × (sum binary64 s A (not t) B (2 ^ 1074) ≡ round binary64 k (cond (beq s t) (A - B + (B - A)) (A + B)) (2 ^ 1074))
unfolding sum
difference false false A B = apart A B true false
difference true true A B = apart A B false (ltb B A)
difference false true A B = (false, refl)
difference true false A B = (true, refl)

minus_is : (x y : Float) (s t : Bool) (A B : ℕ) → Valued x s A → Valued y t B → (k : Bool) × (x ⊖ y ≡ round binary64 k (cond (beq s t) (A - B + (B - A)) (A + B)) (2 ^ 1074))
unfolding sub neg
minus_is x nan s t A B p q = absurd q
minus_is x (inf w) s t A B p q = absurd q
minus_is x (fin w n d) s t A B p q =
    let z = difference s t A B in
    (z.0, add_is x (fin (not w) n d) s (not t) A B p (ap not q.0, q.1) ∙ z.1)

-- ---- squares and quotients
like : (s : Bool) → unlike s s ≡ false
like true = refl
like false = refl

pub square-is : (x : Float) (s : Bool) (A : ℕ) → Valued x s A → x ⊗ x ≡ round binary64 false (A * A) (2 ^ 1074 * 2 ^ 1074)
unfolding mul
square-is nan s A p = absurd p
square-is (inf r) s A p = absurd p
square-is (fin r m e) s A p =
    rw (like r)
    (round_same binary64 false (m * up e * (m * up e)) (down e * down e) (A * A) (2 ^ 1074 * 2 ^ 1074) (mul-pos (down_pos e) (down_pos e)) (mul-pos (pow_pos 1074) (pow_pos 1074))
    (twice (m * up e) (down e) (2 ^ 1074) p.1))
  where
    twice : (k d L : ℕ) → k * L ≡ A * d → k * k * (L * L) ≡ A * A * (d * d)
    twice k d L h = mul-mul-mul_comm k k L L ∙ ap (λ (z : ℕ). z * z) h ∙ mul-mul-mul_comm A d A d

pub quotient_is : (x y : Float) (A B : ℕ) → Valued x false A → Valued y false B → 0 < B → x ⊘ y ≡ round binary64 false A B
unfolding div
quotient_is nan y A B p q b = absurd p
quotient_is (inf r) y A B p q b = absurd p
quotient_is (fin r m e) nan A B p q b = absurd q
quotient_is (fin r m e) (inf w) A B p q b = absurd q
quotient_is (fin true m e) (fin w n d) A B p q b = absurd (true≢false p.0)
quotient_is (fin false m e) (fin true n d) A B p q b = absurd (true≢false q.0)
quotient_is (fin false m e) (fin false n d) A B p q b = go (eqb n 0) (eqb→eq n 0)
  where
    N : 0 < n
    N = first_pos n (up d) (first_pos (n * up d) (2 ^ 1074) (subst (λ (z : ℕ). 0 < z) (sym q.1) (mul-pos b (down_pos d))))

    over : (x y de dd L : ℕ) → 0 < L → x * L ≡ A * de → y * L ≡ B * dd → x * dd * B ≡ A * (y * de)
    over x y de dd L P h g =
        eq_of_mul-eq-mul_right L P (x * dd * B) (A * (y * de))
        (mul_right_comm (x * dd) B L ∙ ap (λ (z : ℕ). z * B) (across L P x de dd A h) ∙ mul_assoc A (de * dd) B
        ∙ ap (λ (z : ℕ). A * z) (mul_comm (de * dd) B ∙ ap (λ (z : ℕ). B * z) (mul_comm de dd) ∙ sym (across L P y dd de B g)) ∙ sym (mul_assoc A (y * de) L))

    go : (k : Bool) → (T k → n ≡ 0) → cond k (cond (eqb m 0) nan (inf false)) (round binary64 false (m * up e * down d) (n * up d * down e)) ≡ round binary64 false A B
    go true z = absurd (lt_irrefl 0 (subst (λ (w : ℕ). 0 < w) (z tt) N))
    go false z =
        round_same binary64 false (m * up e * down d) (n * up d * down e) A B (mul-pos (mul-pos N (up_pos d)) (down_pos e)) b
        (over (m * up e) (n * up d) (down e) (down d) (2 ^ 1074) (pow_pos 1074) p.1 q.1)

-- ---- a value tells its units
exact-is : (x : Float) (s : Bool) (A : ℕ) → Valued x s A → exact x ≡ signed s A
exact-is nan s A v = absurd v
exact-is (inf r) s A v = absurd v
exact-is (fin r m e) s A v = ap (λ (z : ℕ). signed r (z / down e)) v.1 ∙ ap (signed r) (mul-div_cancel A (down_pos e)) ∙ ap (λ (z : Bool). signed z A) v.0

pub plus-exact : (x : Float) (A : ℕ) → Valued x false A → exact x ≡ pos A
plus-exact x A v = exact-is x false A v

pub size_is : (x : Float) (s : Bool) (A : ℕ) → Valued x s A → nat_abs (exact x) ≡ A
size_is x s A v = ap nat_abs (exact-is x s A v) ∙ go s
  where
    go : (s : Bool) → nat_abs (signed s A) ≡ A
    go true = abs_neg (pos A)
    go false = refl

pub valued-finite : (x : Float) (s : Bool) (A : ℕ) → Valued x s A → T (finite x)
valued-finite nan s A v = v
valued-finite (inf r) s A v = v
valued-finite (fin r m e) s A v = tt

pub none_is : (x : Float) → Valued x false 0 → eq x plus_zero ≡ true
unfolding eq of_bits
none_is nan v = absurd v
none_is (inf r) v = absurd v
none_is (fin r m e) v = rw (v.0, zero-mul (down e), eq-eqb (m * up e * 1) 0 (mul-one (m * up e) ∙ eq_of_mul-eq-mul_right (2 ^ 1074) (pow_pos 1074) (m * up e) 0 (v.1 ∙ zero-mul (down e))))

-- ---- every finite value that binary64 holds is a whole number of units: m of 53 digits, and j zeros
pub record Number (x : Float) : Type 0 where
  pub sign : Bool
  pub units : ℕ
  pub val : Valued x sign units
  pub m : ℕ
  pub j : ℕ
  pub is : units ≡ m * 2 ^ j
  pub few : m < 2 ^ 53
  pub under : m * 2 ^ j < 2 ^ 2098

exponent : (e : ℤ) (l : ℕ) → down e ≤ 2 ^ l → (j : ℕ) × (up e * 2 ^ l ≡ 2 ^ j * down e)
exponent (pos k) l h = (k + l, sym (pow-add 2 k l) ∙ sym (mul-one (2 ^ (k + l))))
exponent (negsuc k) l h = (l - suc k, one-mul (2 ^ l) ∙ sym (sym (pow-add 2 (l - suc k) (suc k)) ∙ ap (λ (x : ℕ). 2 ^ x) (sub-add_cancel within)))
  where
    within : suc k ≤ l
    within = let g : ¬ (l < suc k) = λ (g : l < suc k). not-le_of_lt (pow-lt g) h in omega arith

pub number : (x : Float) → T (finite x) → T (fits binary64 x) → Number x
unfolding fits
number nan t h = absurd t
number (inf s) t h = absurd t
number (fin s zero e) t h = record {
  sign = s;
  units = 0;
  val = (refl, ap (λ (z : ℕ). z * 2 ^ 1074) (zero-mul (up e)) ∙ sym (zero-mul (down e)));
  m = 0;
  j = 0;
  is = refl;
  few = lit< tt;
  under = lit< tt;
}
number (fin s (suc m) e) t h =
    let a : Bool = eqb (suc m % 2) 1 in
    let b : Bool = ltb (suc m) (2 ^ 53) in
    let c : Bool = leb (down e) (2 ^ 1074) in
    let d : Bool = ltb (suc m * up e) (2 ^ 1024 * down e) in
    let x = exponent e 1074 (leb→le (down e) (2 ^ 1074) (and_r (a && b) c (and_l (a && b && c) d h))) in
    let v : suc m * up e * 2 ^ 1074 ≡ suc m * 2 ^ x.0 * down e = whole (suc m) (up e) (2 ^ 1074) (2 ^ x.0) x.1 in
    record {
      sign = s;
      units = suc m * 2 ^ x.0;
      val = (refl, v);
      m = suc m;
      j = x.0;
      is = refl;
      few = ltb→lt (suc m) (2 ^ 53) (and_r a b (and_l (a && b) c (and_l (a && b && c) d h)));
      under = below (suc m * up e) (2 ^ 1074) (2 ^ 1024) (suc m * 2 ^ x.0) (pow_pos 1074) v (ltb→lt (suc m * up e) (2 ^ 1024 * down e) (and_r (a && b && c) d h));
    }
  where
    whole : (m u L r : ℕ) → u * L ≡ r * down e → m * u * L ≡ m * r * down e
    whole m u L r h = mul_assoc m u L ∙ ap (λ (z : ℕ). m * z) h ∙ sym (mul_assoc m r (down e))

    below : (x L M W : ℕ) → 0 < L → x * L ≡ W * down e → x < M * down e → W < M * L
    below x L M W P h l = lt_of_mul-lt-mul_right (down e) (lt_of_le_of_lt (le_of_eq (sym h)) (lt_of_lt_of_le (mul-lt-mul_of_pos_right l P) (le_of_eq (mul_right_comm M (down e) L))))

pub number_size : {x : Float} (u : Number x) → nat_abs (exact x) ≡ u.units
number_size {x} u = size_is x u.sign u.units u.val

-- a value that binary64 holds is the rounding of its units
pub held-rounds : (x : Float) (g : ℕ) → T (fits binary64 x) → Valued x false g → (g < 2 ^ 2098) × Valued (round binary64 false g (2 ^ 1074)) false g
held-rounds x g h v =
    let u = number x (valued-finite x false g v) h in
    let is : g ≡ u.m * 2 ^ u.j = sym (size_is x false g v) ∙ number_size u ∙ u.is in
    (lt_of_le_of_lt (le_of_eq is) u.under, round_exact binary64 false g (2 ^ 1074) u.m u.j (pow_pos 1074) u.few u.under (ap (λ (z : ℕ). z * 2 ^ 1074) is))

-- the difference of two
module _ {x y : Float} (u : Number x) (v : Number y) where
  pub apart-is : nat_abs (exact y -ℤ exact x) ≡ cond (beq v.sign u.sign) (v.units - u.units + (u.units - v.units)) (v.units + u.units)
  apart-is = rw (exact-is y v.sign v.units v.val, exact-is x u.sign u.units u.val) (size-apart v.sign u.sign v.units u.units)

  pub difference-is : (k : Bool) × (y ⊖ x ≡ round binary64 k (nat_abs (exact y -ℤ exact x)) (2 ^ 1074))
  difference-is =
      let d = minus_is y x v.sign u.sign v.units u.units v.val u.val in
      (d.0, d.1 ∙ ap (λ (n : ℕ). round binary64 d.0 n (2 ^ 1074)) (sym apart-is))
