-- An accepted statistic is finite and not negative, whatever the sizes and however many residuals there are. Both sums are finite, so only a small divisor could
-- make the quotient overflow. But a sum of squares below 2^j has no term of 2^j or more, so its residuals are small, so are their differences, and a sum of
-- squared differences up to 2^b stays up to 2^(b + 54) (Powers.antt). Assumes nothing.
use mathlib.Core.Path.{◌≡◌, refl, sym, ◌∙◌, subst}
use mathlib.Core.Logic.{◌⊎◌, inl, inr, ⊎_elim}
use Prim.Native.Nat.{ℕ, zero, suc, ◌+◌, ◌-◌, ◌*◌, ◌^◌, ◌≤◌, ◌<◌, zero-le}
use native.Mathlib.Nat.{not-suc-le-zero, le_of_suc-le-suc, not-le_of_lt, le_of_lt, eq-zero-or-pos, add-le-add, le_refl, le_trans, le_of_eq, le_step, le-add_right, le-add_left, lt_of_le_of_lt, eq-or-lt_of_le, zero-mul, mul_assoc, mul-le-mul, mul-le-mul_right, mul-le-mul_left, mul-pos}
use native.Mathlib.Omega.{arith}
use mathlib.Core.Bool.{Bool, true, false, not, beq, true≢false}
use mathlib.Core.List.{List}
use borrow.Author.Tests.{le-ltb}
use lib.Dec.{T, ltb, leb, ltb→lt, nltb→le, leb→le, nleb→lt, lit≤, lit<}
use lib.Pow.{pow_pos, pow_mono}
use lib.IntN.{nat_abs, ◌-ℤ◌}
use lib.Ieee.{Float, nan, inf, fin, binary64, up, is_nan, round, units, neg, add, mul, eq, of_bits}
use lib.Ieee.Fits.{round_is, down_pos, add-fits}
use lib.Ieee.Order.{drop, kept}
use lib.Ieee.Scale.{grid, finite}
use Rattle.floats.specs.Words.{◌⊕◌, ◌⊖◌, ◌⊗◌, ◌⊘◌, ◌‼◌, minus_zero, plus_zero, square_of}
use Rattle.floats.specs.Sums.{sum_of}
use Rattle.floats.proofs.Numbers.{round_number}
use Rattle.autocorrelation.specs.Bound.{exact, exact_difference}
use Rattle.autocorrelation.proofs.Rounding.{Valued, round-units}
use Rattle.autocorrelation.proofs.Units.{plus-is, start_is, square-is, quotient_is, Number, difference-is, apart-is, held-rounds, size_is, none_is}
use Rattle.autocorrelation.proofs.SumLaws.{SD, SS}
use Rattle.autocorrelation.proofs.Rules.{most}
use Rattle.autocorrelation.proofs.Powers.{at_least, at_most}

-- ---- m units or more

-- not negative, and m units or more; an infinity counts
abbrev Above : ℕ → Float → Type 0
Above m nan = ⊥
Above m (inf s) = s ≡ false
Above m (fin s k e) = (g : ℕ) × Valued (fin s k e) false g × (m ≤ g)

-- a rounding keeps m as a lower bound: so it does 0, and a power of two
abbrev Keeps : ℕ → Type 0
Keeps m = (n c : ℕ) → 0 < c → m * c ≤ n → m ≤ kept 53 n c * 2 ^ drop 53 n c

keeps-none : Keeps 0
keeps-none n c C h = zero-le

keeps-power : (j : ℕ) → Keeps (2 ^ j)
keeps-power j n c C h = at_least n c C j h

valued-above : (m : ℕ) (x : Float) (g : ℕ) → Valued x false g → m ≤ g → Above m x
valued-above m nan g v h = v
valued-above m (inf s) g v h = absurd v
valued-above m (fin s k e) g v h = (g, v, h)

round-above : (m a c : ℕ) → Keeps m → 0 < c → m * c ≤ a * 2 ^ 1074 → Above m (round binary64 false a c)
round-above m a c keeps C h = go (ltb (grid binary64 a c) (2 ^ 2098)) (ltb→lt (grid binary64 a c) (2 ^ 2098)) (nltb→le (grid binary64 a c) (2 ^ 2098))
  where
    over : (q k : ℕ) → 2 ^ 2098 ≤ q * 2 ^ k → units binary64 false q k ≡ inf false
    over q k l = unfold units in rw (le-ltb (q * 2 ^ k) (2 ^ 2098) l)

    go : (t : Bool) → (T t → grid binary64 a c < 2 ^ 2098) → (T (not t) → 2 ^ 2098 ≤ grid binary64 a c) → Above m (round binary64 false a c)
    go true l g = valued-above m (round binary64 false a c) (grid binary64 a c) (round-units false a c (l tt)) (keeps (a * 2 ^ 1074) c C h)
    go false l g = subst (Above m) (sym (round_is binary64 false a c ∙ over (kept 53 (a * 2 ^ 1074) c) (drop 53 (a * 2 ^ 1074) c) (g tt))) refl

round-positive : (a : ℕ) {c : ℕ} → 0 < c → Above 0 (round binary64 false a c)
round-positive a {c} C = round-above 0 a c keeps-none C (le_trans (le_of_eq (zero-mul c)) zero-le)

plus-above : (m a b : ℕ) (x y : Float) → Keeps m → m ≤ a + b → Above a x → Above b y → Above m (x ⊕ y)
unfolding add
plus-above m a b nan y keeps h p q = absurd p
plus-above m a b (inf true) y keeps h p q = absurd (true≢false p)
plus-above m a b (inf false) nan keeps h p q = absurd q
plus-above m a b (inf false) (inf true) keeps h p q = absurd (true≢false q)
plus-above m a b (inf false) (inf false) keeps h p q = refl
plus-above m a b (inf false) (fin t n d) keeps h p q = refl
plus-above m a b (fin s k e) nan keeps h p q = absurd q
plus-above m a b (fin s k e) (inf t) keeps h p q = q
plus-above m a b (fin s k e) (fin t n d) keeps h p q =
    subst (Above m) (sym (plus-is (fin s k e) (fin t n d) p.0 q.0 p.1 q.1))
    (round-above m (p.0 + q.0) (2 ^ 1074) keeps (pow_pos 1074) (mul-le-mul_right (2 ^ 1074) (omega (arith, p.2, q.2))))

start-above : (m : ℕ) (x : Float) → Keeps m → Above m x → Above m (minus_zero ⊕ x)
start-above m nan keeps p = absurd p
start-above m (inf s) keeps p = unfold add neg of_bits in p
start-above m (fin s k e) keeps p = subst (Above m) (sym (start_is (fin s k e) p.0 p.1)) (round-above m p.0 (2 ^ 1074) keeps (pow_pos 1074) (mul-le-mul_right (2 ^ 1074) p.2))

-- a sum of terms that are not negative is no less than any one of them, as far as a rounding keeps that
sum-above : (term : ℕ → Float) (m k t : ℕ) → Keeps m → ((i : ℕ) → i < suc k → Above 0 (term i)) → t < suc k → Above m (term t) → Above m (sum_of (suc k) term)
unfolding sum_of
sum-above term m zero t keeps each l p = start-above m (term 0) keeps (subst (λ (i : ℕ). Above m (term i)) (omega arith) p)
sum-above term m (suc k) t keeps each l p =
    ⊎_elim
    (λ (e : t ≡ suc k). plus-above m 0 m (sum_of (suc k) term) (term (suc k)) keeps (omega arith) (sum-above term 0 k 0 keeps-none (λ (i : ℕ) (g : i < suc k). each i (le_step g)) (omega arith) (each 0 (omega arith))) (subst (λ (i : ℕ). Above m (term i)) e p))
    (λ (g : t < suc k). plus-above m m 0 (sum_of (suc k) term) (term (suc k)) keeps (omega arith) (sum-above term m k t keeps (λ (i : ℕ) (g : i < suc k). each i (le_step g)) g p) (each (suc k) (le_refl (suc (suc k)))))
    (eq-or-lt_of_le {n = t} {m = suc k} (omega arith))

-- ---- 2^j units or less
abbrev UpTo : ℕ → Float → Type 0
UpTo j x = (g : ℕ) × Valued x false g × (g ≤ 2 ^ j)

round-up-to : (s : Bool) (a c b : ℕ) → b ≤ 2043 → 0 < c → a * 2 ^ 1074 ≤ (2 ^ (b + 54) + 2 ^ b) * c → (g : ℕ) × Valued (round binary64 s a c) s g × (g ≤ 2 ^ (b + 54))
round-up-to s a c b B C h =
    let m : grid binary64 a c ≤ 2 ^ (b + 54) = at_most (a * 2 ^ 1074) c C b h in
    (grid binary64 a c, round-units s a c (lt_of_le_of_lt m (lt_of_le_of_lt (pow_mono {i = b + 54} {j = 2097} (omega arith)) (lit< tt))), m)

sum-up-to : (term : ℕ → Float) (b : ℕ) → b ≤ 2043 → (k : ℕ) → ((i : ℕ) → i < suc k → UpTo b (term i)) → UpTo (b + 54) (sum_of (suc k) term)
unfolding sum_of
sum-up-to term b B zero each =
    let x = each 0 (omega arith) in
    subst (UpTo (b + 54)) (sym (start_is (term 0) x.0 x.1))
    (round-up-to false x.0 (2 ^ 1074) b B (pow_pos 1074) (mul-le-mul_right (2 ^ 1074) (le_trans x.2 (le-add_left (2 ^ b) (2 ^ (b + 54))))))
sum-up-to term b B (suc k) each =
    let s = sum-up-to term b B k (λ (i : ℕ) (g : i < suc k). each i (le_step g)) in
    let x = each (suc k) (le_refl (suc (suc k))) in
    subst (UpTo (b + 54)) (sym (plus-is (sum_of (suc k) term) (term (suc k)) s.0 x.0 s.1 x.1))
    (round-up-to false (s.0 + x.0) (2 ^ 1074) b B (pow_pos 1074) (mul-le-mul_right (2 ^ 1074) (add-le-add s.2 x.2)))

-- ---- squares of numbers, and of their differences

square_above : {x : Float} (u : Number x) (m : ℕ) → Keeps m → m * 2 ^ 1074 ≤ u.units * u.units → Above m (x ⊗ x)
square_above {x} u m keeps h =
    subst (Above m) (sym (square-is x u.sign u.units u.val))
    (round-above m (u.units * u.units) (2 ^ 1074 * 2 ^ 1074) keeps (mul-pos (pow_pos 1074) (pow_pos 1074)) (le_trans (le_of_eq (sym (mul_assoc m (2 ^ 1074) (2 ^ 1074)))) (mul-le-mul_right (2 ^ 1074) h)))

-- both numbers up to 2^i: their difference is up to 2^(r + 54), and its square up to 2^(b + 54)
difference-up-to : (i r b : ℕ) → r ≤ 2043 → b ≤ 2043 → 2 ^ i * 2 ≤ 2 ^ (r + 54) → 2 ^ (r + 54) * 2 ^ (r + 54) ≤ 2 ^ (b + 54) * 2 ^ 1074
    → {x y : Float} (u : Number x) (v : Number y) → u.units ≤ 2 ^ i → v.units ≤ 2 ^ i → UpTo (b + 54) (square_of (y ⊖ x))
difference-up-to i r b R B h f {x} {y} u v p q =
    let d = difference-is u v in
    let W = nat_abs (exact y -ℤ exact x) in
    let l : W ≤ 2 ^ (r + 54) = le_trans (le_of_eq (apart-is u v)) (le_trans (most (beq v.sign u.sign) v.units u.units (2 ^ i) q p) h) in
    let g = round-up-to d.0 W (2 ^ 1074) r R (pow_pos 1074) (mul-le-mul_right (2 ^ 1074) (le_trans l (le-add_right (2 ^ (r + 54)) (2 ^ r)))) in
    let m : g.0 * g.0 ≤ 2 ^ (b + 54) * 2 ^ 1074 = le_trans (mul-le-mul g.2 g.2) f in
    subst (UpTo (b + 54)) (sym (square-is (y ⊖ x) d.0 g.0 (subst (λ (z : Float). Valued z d.0 g.0) (sym d.1) g.1)))
    (round-up-to false (g.0 * g.0) (2 ^ 1074 * 2 ^ 1074) b B (mul-pos (pow_pos 1074) (pow_pos 1074))
    (le_trans (mul-le-mul_right (2 ^ 1074) m) (le_trans (le_of_eq (mul_assoc (2 ^ (b + 54)) (2 ^ 1074) (2 ^ 1074))) (mul-le-mul_right (2 ^ 1074 * 2 ^ 1074) (le-add_right (2 ^ (b + 54)) (2 ^ b))))))

-- ---- what is not negative and finite is a number of units
finite-units : (x : Float) → finite x ≡ true → Above 0 x → (g : ℕ) × Valued x false g
finite-units nan h p = absurd p
finite-units (inf s) h p = absurd (true≢false (sym h))
finite-units (fin s m e) h p = (p.0, p.1)

units-above : (m : ℕ) (x : Float) (g : ℕ) → Above m x → Valued x false g → m ≤ g
units-above m nan g p v = absurd v
units-above m (inf s) g p v = absurd v
units-above m (fin s k e) g p v = le_trans p.2 (le_of_eq (sym (size_is (fin s k e) false p.0 p.1) ∙ size_is (fin s k e) false g v))

-- a square is not negative
square-positive : (x : Float) → is_nan x ≡ false → Above 0 (x ⊗ x)
unfolding mul is_nan
square-positive nan h = absurd (true≢false h)
square-positive (inf true) h = refl
square-positive (inf false) h = refl
square-positive (fin true m e) h = round-positive (m * up e * (m * up e)) (mul-pos (down_pos e) (down_pos e))
square-positive (fin false m e) h = round-positive (m * up e * (m * up e)) (mul-pos (down_pos e) (down_pos e))

-- ---- the two sums of k + 2 numbers
module _ (e : List Float) (k : ℕ) (numbers : (t : ℕ) → t < suc (suc k) → Number (e ‼ t)) where
  squares-above : (t : ℕ) → t < suc (suc k) → Above 0 (square_of (e ‼ t))
  squares-above t g = square_above (numbers t g) 0 keeps-none zero-le

  differences-above : (t : ℕ) → t < suc k → Above 0 (square_of (e ‼ (t + 1) ⊖ e ‼ t))
  differences-above t g =
      let d = difference-is (numbers t (omega arith)) (numbers (t + 1) (omega arith)) in
      square-positive (e ‼ (t + 1) ⊖ e ‼ t) (rw d.1 (round_number binary64 d.0 (nat_abs (exact_difference e t)) (2 ^ 1074)))

  -- where the sum of squares is below 2^j, no number is above 2^i
  small : (i j : ℕ) → 2 ^ j * 2 ^ 1074 ≤ 2 ^ i * 2 ^ i → (g : ℕ) → Valued (SS e (suc (suc k))) false g → g < 2 ^ j → (t : ℕ) (l : t < suc (suc k)) → (numbers t l).units ≤ 2 ^ i
  small i j f g v h t l = go (numbers t l) (leb (numbers t l).units (2 ^ i)) (leb→le (numbers t l).units (2 ^ i)) (nleb→lt (numbers t l).units (2 ^ i))
    where
      go : (u : Number (e ‼ t)) (b : Bool) → (T b → u.units ≤ 2 ^ i) → (T (not b) → 2 ^ i < u.units) → u.units ≤ 2 ^ i
      go u true p q = p tt
      go u false p q =
          absurd
          (not-le_of_lt h
          (units-above (2 ^ j) (SS e (suc (suc k))) g
          (sum-above (λ t. square_of (e ‼ t)) (2 ^ j) (suc k) t (keeps-power j) squares-above l
          (square_above u (2 ^ j) (keeps-power j) (le_trans f (mul-le-mul (le_of_lt (q tt)) (le_of_lt (q tt)))))) v))

  -- and the sum of squared differences is up to 2^(b + 108)
  limited : (i j r b : ℕ) → r ≤ 2043 → b + 54 ≤ 2043 → 2 ^ j * 2 ^ 1074 ≤ 2 ^ i * 2 ^ i → 2 ^ i * 2 ≤ 2 ^ (r + 54) → 2 ^ (r + 54) * 2 ^ (r + 54) ≤ 2 ^ (b + 54) * 2 ^ 1074
      → (g : ℕ) → Valued (SS e (suc (suc k))) false g → g < 2 ^ j → UpTo (b + 54 + 54) (SD e (suc k))
  limited i j r b R B f h m g v l =
      sum-up-to (λ t. square_of (e ‼ (t + 1) ⊖ e ‼ t)) (b + 54) B k
      (λ (t : ℕ) (s : t < suc k). difference-up-to i r b R (omega arith) h m (numbers t (omega arith)) (numbers (t + 1) (omega arith)) (small i j f g v l t (omega arith)) (small i j f g v l (t + 1) (omega arith)))

  -- by the size of the sum of squares: 4 or more; 2^-964 or more; less
  counted : finite (SD e (suc k)) ≡ true → finite (SS e (suc (suc k))) ≡ true → eq (SS e (suc (suc k))) plus_zero ≡ false → (z : ℕ) × Valued (SD e (suc k) ⊘ SS e (suc (suc k))) false z
  counted fd fs some =
      let a = finite-units (SD e (suc k)) fd (sum-above (λ t. square_of (e ‼ (t + 1) ⊖ e ‼ t)) 0 k 0 keeps-none differences-above (omega arith) (differences-above 0 (omega arith))) in
      let s = finite-units (SS e (suc (suc k))) fs (sum-above (λ t. square_of (e ‼ t)) 0 (suc k) 0 keeps-none squares-above (omega arith) (squares-above 0 (omega arith))) in
      go a.0 a.1 s.0 s.1 (above s.0 s.1 (eq-zero-or-pos s.0)) (leb (2 ^ 1076) s.0) (leb→le (2 ^ 1076) s.0) (nleb→lt (2 ^ 1076) s.0) (leb (2 ^ 110) s.0) (leb→le (2 ^ 110) s.0) (nleb→lt (2 ^ 110) s.0)
    where
      above : (g : ℕ) → Valued (SS e (suc (suc k))) false g → (g ≡ 0) ⊎ (0 < g) → 0 < g
      above g v (inl z) = absurd (true≢false (sym (none_is (SS e (suc (suc k))) (subst (λ (i : ℕ). Valued (SS e (suc (suc k))) false i) z v)) ∙ some))
      above g v (inr p) = p

      quotient : (a g : ℕ) → Valued (SD e (suc k)) false a → Valued (SS e (suc (suc k))) false g → 0 < g → a * 2 ^ 1074 ≤ 2 ^ 2097 * g → (z : ℕ) × Valued (SD e (suc k) ⊘ SS e (suc (suc k))) false z
      quotient a g u v p h =
          let q = round-up-to false a g 2043 (lit≤ tt) p (le_trans h (mul-le-mul_right g (lit≤ tt))) in
          (q.0, rw (quotient_is (SD e (suc k)) (SS e (suc (suc k))) a g u v p) q.1)

      under : (a : ℕ) → Valued (SD e (suc k)) false a → a < 2 ^ 2098
      under a u = (held-rounds (SD e (suc k)) a (unfold sum_of in add-fits binary64 (SD e k) (square_of (e ‼ (k + 1) ⊖ e ‼ k))) u).0

      go : (a : ℕ) → Valued (SD e (suc k)) false a → (g : ℕ) → Valued (SS e (suc (suc k))) false g → 0 < g → (x : Bool) → (T x → 2 ^ 1076 ≤ g) → (T (not x) → g < 2 ^ 1076) → (y : Bool) → (T y → 2 ^ 110 ≤ g) → (T (not y) → g < 2 ^ 110)
          → (z : ℕ) × Valued (SD e (suc k) ⊘ SS e (suc (suc k))) false z
      go a u g v p true l m y n o = quotient a g u v p (le_trans (mul-le-mul_right (2 ^ 1074) (le_of_lt (under a u))) (le_trans (lit≤ tt) (mul-le-mul_left (2 ^ 2097) (l tt))))
      go a u g v p false l m true n o =
          let d = limited 1075 1076 1022 1024 (lit≤ tt) (lit≤ tt) (lit≤ tt) (lit≤ tt) (lit≤ tt) g v (m tt) in
          quotient d.0 g d.1 v p (le_trans (mul-le-mul_right (2 ^ 1074) d.2) (le_trans (lit≤ tt) (mul-le-mul_left (2 ^ 2097) (n tt))))
      go a u g v p false l m false n o =
          let d = limited 592 110 539 58 (lit≤ tt) (lit≤ tt) (lit≤ tt) (lit≤ tt) (lit≤ tt) g v (o tt) in
          quotient d.0 g d.1 v p (le_trans (mul-le-mul_right (2 ^ 1074) d.2) (le_trans (lit≤ tt) (mul-le-mul_left (2 ^ 2097) p)))

-- of n numbers
pub in-range : (e : List Float) (n : ℕ) → 2 ≤ n → ((t : ℕ) → t < n → Number (e ‼ t)) → finite (SD e (n - 1)) ≡ true → finite (SS e n) ≡ true → eq (SS e n) plus_zero ≡ false
    → (z : ℕ) × Valued (SD e (n - 1) ⊘ SS e n) false z
in-range e zero a numbers fd fs some = absurd (not-suc-le-zero a)
in-range e (suc zero) a numbers fd fs some = absurd (not-suc-le-zero (le_of_suc-le-suc a))
in-range e (suc (suc k)) a numbers fd fs some =
    let c : suc (suc k) - 1 ≡ suc k = omega arith in
    rw c (counted e k numbers (rw c at fd) fs some)
