-- p by the exact path lies in 0 .. 1: it is the clamped lower tail q, 1 - q, or twice the smaller. One idea: rounding keeps the order, so where q is at least 1/2 the
-- rounded 1 - q is at most 1/2, and the other way round; the smaller of the two is at most 1/2. Assumes nothing.
use mathlib.Core.Path.{◌≡◌, refl, sym, ◌∙◌}
use mathlib.Core.Bool.{Bool, true, false, ◌&&◌, ◌||◌, cond, true≢false}
use Prim.Native.Nat.{ℕ, ◌+◌, ◌-◌, ◌*◌, ◌≤◌, ◌<◌}
use native.Mathlib.Nat.{zero-mul, mul-pos, mul-le-mul_right, mul-lt-mul_of_pos_right}
use native.Mathlib.Decide.{dec_le}
use native.Mathlib.Omega.{arith}
use lib.IntN.{ℤ}
use lib.Dec.{T, ltb, eqb, ltb→lt, lit<}
use borrow.Author.Tests.{ltb-true, ltb-false, eqb-true, lt-ltb, le-ltb}
use lib.Ieee.{Float, nan, inf, fin, binary64, up, down, size, odd, units, round, sum, add, sub, neg, lt, le, eq, is_nan, of_bits}
use lib.Ieee.Fits.{down_pos}
use lib.Ieee.Bits.{is_true}
use lib.Ieee.Order.{le_of_values, round_mono}
use Rattle.floats.specs.Words.{◌⊖◌, plus_zero, one}
use Rattle.elementary.specs.Patterns.{half}
use Rattle.elementary.specs.Bounds.{Within}
use Rattle.elementary.proofs.Small.{fraction-within}
use Rattle.elementary.proofs.Leaning.{Leans, wide, part, nothing, round-leans}
use Rattle.design.proofs.Bounds.{no_size_lem, at_most, zero-from, twice-within}
use Rattle.outcome.specs.declared.Alternative.{Alternative}
use Rattle.outcome.specs.declared.Alternative.TheVariants.{Greater, Less, TwoSided}
use Rattle.outcome.specs.P.{smaller, exact_p}

-- a zero that is written as negative, or a fraction from 0 to 1
data Unit : Float → Type 0 where
  none : (m : ℕ) (e : ℤ) → m * up e ≡ 0 → Unit (fin true m e)
  some : (m : ℕ) (e : ℤ) → m * up e ≤ down e → Unit (fin false m e)

at_most_one : (m : ℕ) (e : ℤ) → le (fin false m e) one ≡ true → m * up e ≤ down e
unfolding le lt eq of_bits
at_most_one m e h = go (ltb (m * up e * 1) (1 * 1 * down e)) (eqb (m * up e * 1) (1 * 1 * down e)) refl refl h
  where
    go : (a b : Bool) → ltb (m * up e * 1) (1 * 1 * down e) ≡ a → eqb (m * up e * 1) (1 * 1 * down e) ≡ b → a || (b && true) ≡ true → m * up e ≤ down e
    go true b p q t = omega (arith, ltb-true (m * up e * 1) (1 * 1 * down e) p)
    go false true p q t = omega (arith, eqb-true (m * up e * 1) (1 * 1 * down e) q)
    go false false p q t = absurd (true≢false (sym t))

unit-of : (q : Float) → le plus_zero q ≡ true → le q one ≡ true → Unit q
unit-of nan h g = absurd (true≢false (sym (unfold le lt eq in g)))
unit-of (inf true) h g = absurd (true≢false (sym (unfold le lt eq of_bits in h)))
unit-of (inf false) h g = absurd (true≢false (sym (unfold le lt eq of_bits in g)))
unit-of (fin true m e) h g = none m e (no_size_lem m e h)
unit-of (fin false m e) h g = some m e (at_most_one m e g)

-- ---- 1 - q
rest-of-some : (m : ℕ) (e : ℤ) → m * up e ≤ down e → one ⊖ fin false m e ≡ round binary64 false (1 * 1 * down e - m * up e * 1) (1 * down e)
unfolding sub add neg sum of_bits
rest-of-some m e h = go (ltb (1 * 1 * down e) (m * up e * 1)) (ltb→lt (1 * 1 * down e) (m * up e * 1))
  where
    go : (b : Bool) → (T b → 1 * 1 * down e < m * up e * 1)
        → cond b (round binary64 true (m * up e * 1 - 1 * 1 * down e) (1 * down e)) (round binary64 false (1 * 1 * down e - m * up e * 1) (1 * down e)) ≡ round binary64 false (1 * 1 * down e - m * up e * 1) (1 * down e)
    go true k = absurd (omega (arith, k tt))
    go false k = refl

rest-of-none : (m : ℕ) (e : ℤ) → one ⊖ fin true m e ≡ round binary64 false (1 * 1 * down e + m * up e * 1) (1 * down e)
unfolding sub add neg sum of_bits
rest-of-none m e = refl

rest-within : (q : Float) → Unit q → Within plus_zero one (one ⊖ q)
rest-within q (none m e h) = rw (rest-of-none m e) (fraction-within (1 * 1 * down e + m * up e * 1) (1 * down e) (omega (arith, down_pos e)) (omega arith))
rest-within q (some m e h) = rw (rest-of-some m e h) (fraction-within (1 * 1 * down e - m * up e * 1) (1 * down e) (omega (arith, down_pos e)) (omega arith))

-- what leans up is not below a zero
below_none : (y : Float) → Leans false y → (m : ℕ) (e : ℤ) → m * up e ≡ 0 → lt y (fin true m e) ≡ false
unfolding lt
below_none y wide m e h = refl
below_none y (part i j) m e h = refl
below_none y (nothing true j) m e h = le-ltb (m * up e * down j) (0 * up j * down e) (omega (arith, zero-mul (up j), zero-mul (down e)))
below_none y (nothing false j) m e h = refl

-- ---- the smaller of q and 1 - q
half-rounded : round binary64 false 1 2 ≡ half
unfolding round units odd size of_bits
half-rounded = refl

at_least : (m : ℕ) (e : ℤ) → le half (fin false m e) ≡ true → down e ≤ m * up e * 2
unfolding le lt eq of_bits
at_least m e h = go (ltb (1 * 1 * down e) (m * up e * 2)) (eqb (1 * 1 * down e) (m * up e * 2)) refl refl h
  where
    go : (a b : Bool) → ltb (1 * 1 * down e) (m * up e * 2) ≡ a → eqb (1 * 1 * down e) (m * up e * 2) ≡ b → a || (b && true) ≡ true → down e ≤ m * up e * 2
    go true b p q t = omega (arith, ltb-true (1 * 1 * down e) (m * up e * 2) p)
    go false true p q t = omega (arith, eqb-true (1 * 1 * down e) (m * up e * 2) q)
    go false false p q t = absurd (true≢false (sym t))

-- y = a / b is at least 1/2 and below q = c / d, which is at most 1/2
above_half : (a b c d : ℕ) → b ≤ a * 2 → a * d < c * b → c * 2 ≤ d → ⊥
above_half a b c d p q r = omega (arith, mul-le-mul_right d p, mul-le-mul_right b r)

-- y is at most 1/2 and not below q, which is more than 1/2
below_half : (a b c d : ℕ) → 0 < b → a * 2 ≤ b → c * b ≤ a * d → d < c * 2 → ⊥
below_half a b c d B p q r = omega (arith, mul-le-mul_right d p, mul-lt-mul_of_pos_right r B)

-- a fraction from 0 to 1/2 lies there
fraction-to-half : (m : ℕ) (e : ℤ) → m * up e * 2 ≤ down e → Within plus_zero half (fin false m e)
unfolding is_nan
fraction-to-half m e h = record {
  number = refl;
  from = is_true (le plus_zero (fin false m e)) (le_of_values plus_zero (fin false m e) 0 1 (m * up e) (down e) (lit< tt) (down_pos e) (unfold of_bits in (refl, refl)) (refl, refl) (omega (arith, zero-mul (down e))));
  to = is_true (le (fin false m e) half) (le_of_values (fin false m e) half (m * up e) (down e) 1 2 (down_pos e) (lit< tt) (refl, refl) (unfold of_bits in (refl, refl)) (omega arith));
}

-- a zero that is written as negative
zero-to-half : (m : ℕ) (e : ℤ) → m * up e ≡ 0 → Within plus_zero half (fin true m e)
zero-to-half m e h = record { number = unfold is_nan in refl; from = zero-from true m e h; to = low (m * up e * 2) (1 * 1 * down e) (omega arith) (omega (arith, down_pos e)) }
  where
    low : (p r : ℕ) → p ≡ 0 → 0 < r → le (fin true m e) half ≡ true
    low p r f g = unfold le lt eq of_bits in rw (lt-ltb 0 (m * up e * 2 + 1 * 1 * down e) (omega (arith, down_pos e)))

module _ (m : ℕ) (e : ℤ) (h : m * up e ≤ down e) where
  abbrev q : Float
  q = fin false m e

  -- y is 1 - q, rounded: at most 1/2 where q is at least, and at least where q is at most
  smaller-of : (y : Float) → Within plus_zero one y → (down e ≤ m * up e * 2 → le y half ≡ true) → (m * up e * 2 ≤ down e → le half y ≡ true) → Within plus_zero half (smaller q y)
  smaller-of nan w up_to_lem from = absurd (true≢false (unfold is_nan in w.number))
  smaller-of (inf true) w up_to_lem from = absurd (true≢false (sym (unfold le lt eq of_bits in w.from)))
  smaller-of (inf false) w up_to_lem from = absurd (true≢false (sym (unfold le lt eq of_bits in w.to)))
  smaller-of (fin true i j) w up_to_lem from = by (dec_le (m * up e * 2) (down e))
    where
      by : Dec (m * up e * 2 ≤ down e) → Within plus_zero half (smaller q (fin true i j))
      by (yes l) = go (lt (fin true i j) q)
        where
          go : (b : Bool) → Within plus_zero half (cond b (fin true i j) q)
          go true = zero-to-half i j (no_size_lem i j w.from)
          go false = fraction-to-half m e l
      by (no l) = go (lt (fin true i j) q) refl
        where
          some : lt (fin true i j) q ≡ true
          some = unfold lt in lt-ltb 0 (i * up j * down e + m * up e * down j) (omega (arith, mul-pos {m = m * up e} {n = down j} (omega arith) (down_pos j)))

          go : (b : Bool) → lt (fin true i j) q ≡ b → Within plus_zero half (cond b (fin true i j) q)
          go true f = zero-to-half i j (no_size_lem i j w.from)
          go false f = absurd (true≢false (sym some ∙ f))
  smaller-of (fin false i j) w up_to_lem from = by (dec_le (m * up e * 2) (down e))
    where
      by : Dec (m * up e * 2 ≤ down e) → Within plus_zero half (smaller q (fin false i j))
      by (yes l) = go (lt (fin false i j) q) refl
        where
          go : (b : Bool) → lt (fin false i j) q ≡ b → Within plus_zero half (cond b (fin false i j) q)
          go true f = absurd (above_half (i * up j) (down j) (m * up e) (down e) (at_least i j (from l)) (ltb-true (i * up j * down e) (m * up e * down j) (unfold lt in f)) l)
          go false f = fraction-to-half m e l
      by (no l) = go (lt (fin false i j) q) refl
        where
          small : i * up j * 2 ≤ down j
          small = omega (arith, at_most i j (up_to_lem (omega arith)))

          go : (b : Bool) → lt (fin false i j) q ≡ b → Within plus_zero half (cond b (fin false i j) q)
          go true f = fraction-to-half i j small
          go false f = absurd (below_half (i * up j) (down j) (m * up e) (down e) (down_pos j) small (ltb-false (i * up j * down e) (m * up e * down j) (unfold lt in f)) (omega arith))

smaller-within : (q : Float) → Unit q → Within plus_zero half (smaller q (one ⊖ q))
smaller-within q (none m e h) = go (lt (one ⊖ fin true m e) (fin true m e)) refl
  where
    never : lt (one ⊖ fin true m e) (fin true m e) ≡ false
    never = rw (rest-of-none m e) (below_none (round binary64 false (1 * 1 * down e + m * up e * 1) (1 * down e)) (round-leans false (1 * 1 * down e + m * up e * 1) (1 * down e)) m e h)

    go : (b : Bool) → lt (one ⊖ fin true m e) (fin true m e) ≡ b → Within plus_zero half (cond b (one ⊖ fin true m e) (fin true m e))
    go true f = absurd (true≢false (sym f ∙ never))
    go false f = zero-to-half m e h
smaller-within q (some m e h) =
    rw (rest-of-some m e h)
    (smaller-of m e h (round binary64 false (1 * 1 * down e - m * up e * 1) (1 * down e)) (fraction-within (1 * 1 * down e - m * up e * 1) (1 * down e) (omega (arith, down_pos e)) (omega arith))
    (λ l. is_true (le (round binary64 false (1 * 1 * down e - m * up e * 1) (1 * down e)) half) (rw half-rounded at (round_mono binary64 (1 * 1 * down e - m * up e * 1) (1 * down e) 1 2 (omega (arith, down_pos e)) (lit< tt) (omega arith))))
    (λ l. is_true (le half (round binary64 false (1 * 1 * down e - m * up e * 1) (1 * down e))) (rw half-rounded at (round_mono binary64 1 2 (1 * 1 * down e - m * up e * 1) (1 * down e) (lit< tt) (omega (arith, down_pos e)) (omega arith)))))

-- ---- p
pub exact-p-within : (q : Float) (a : Alternative) → is_nan q ≡ false → le plus_zero q ≡ true → le q one ≡ true → Within plus_zero one (exact_p q a)
exact-p-within q Greater n f t = record { number = n; from = f; to = t }
exact-p-within q Less n f t = rest-within q (unit-of q f t)
exact-p-within q TwoSided n f t = twice-within (smaller q (one ⊖ q)) (smaller-within q (unit-of q f t))
