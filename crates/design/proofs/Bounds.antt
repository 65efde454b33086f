-- For bounds on p, which is a tail or twice a tail: what the answer of a law that serves tells of the law, that |x| has the sign plus, and that twice a number from 0 to 1/2 is one from 0 to 1. Assumes nothing.
use mathlib.Core.Path.{◌≡◌, refl, sym, ◌∙◌, subst}
use mathlib.Core.Bool.{Bool, true, false, ◌&&◌, ◌||◌, cond, true≢false}
use Prim.Native.Nat.{ℕ, zero, suc, ◌+◌, ◌*◌, ◌^◌, ◌≤◌, ◌<◌}
use native.Mathlib.Nat.{zero-mul, mul-pos, lt_irrefl, zero-lt-suc}
use native.Mathlib.Omega.{arith}
use lib.IntN.{ℤ}
use lib.Dec.{ltb, eqb, lit<}
use lib.Ieee.{Float, nan, inf, fin, binary64, up, down, below, level, round, mul, lt, eq, le, is_nan, of_bits}
use lib.Ieee.Fits.{down_pos}
use lib.Ieee.Exact.{HasValue, round_exact}
use lib.Ieee.Scale.{finite}
use borrow.Author.Tests.{ltb-true, eqb-true, lt-ltb}
use Rattle.floats.specs.Words.{◌⊗◌, plus_zero, one, two}
use Rattle.floats.specs.Signs.{abs_of}
use Rattle.elementary.specs.declared.NormalLaw.{NormalLaw}
use Rattle.elementary.specs.Patterns.{half}
use Rattle.elementary.specs.Bounds.{Within}
use Rattle.elementary.proofs.Small.{fraction-within}
use Rattle.design.specs.Law.{law_answer}
use Rattle.std.specs.Prelude.{Ok, Err}
use Rattle.design.specs.declared.LawError.TheVariants.{NotFinite, NotSpread}
use Rattle.design.proofs.NotBelow.{Plus, wide, part}

-- ---- what the answer tells of the law
pub usable : (law found : NormalLaw) → law_answer law ≡ Ok found → (found ≡ law) × (finite law.mean ≡ true) × (finite law.variance ≡ true) × (lt plus_zero law.variance ≡ true)
usable law found h = go (finite law.mean) (finite law.variance) (lt plus_zero law.variance) refl refl refl h
  where
    go : (a b c : Bool) → finite law.mean ≡ a → finite law.variance ≡ b → lt plus_zero law.variance ≡ c → cond (a && b) (cond c (Ok law) (Err NotSpread)) (Err NotFinite) ≡ Ok found
        → (found ≡ law) × (finite law.mean ≡ true) × (finite law.variance ≡ true) × (lt plus_zero law.variance ≡ true)
    go false b c p q r e = cc
    go true false c p q r e = cc
    go true true false p q r e = cc
    go true true true p q r e = (cc, p, q, r)

-- ---- sizes, and numbers that are finite
pub abs-plus : (x : Float) → is_nan x ≡ false → Plus (abs_of x)
unfolding is_nan abs_of
abs-plus nan h = absurd (true≢false h)
abs-plus (inf s) h = wide
abs-plus (fin s m e) h = part m e

pub number : (d : Float) → finite d ≡ true → is_nan d ≡ false
unfolding is_nan
number nan h = absurd (true≢false (sym h))
number (inf s) h = refl
number (fin s m e) h = refl

-- ---- twice a number from 0 to 1/2
pub no_size_lem : (m : ℕ) (e : ℤ) → le plus_zero (fin true m e) ≡ true → m * up e ≡ 0
unfolding le lt eq of_bits
no_size_lem m e h = go (eqb (0 * 1 * down e) (m * up e * 1)) (eqb (0 * 1 * down e) 0) refl h
  where
    go : (a b : Bool) → eqb (0 * 1 * down e) (m * up e * 1) ≡ a → a && b ≡ true → m * up e ≡ 0
    go true b p q = omega (arith, eqb-true (0 * 1 * down e) (m * up e * 1) p, zero-mul (down e))
    go false b p q = absurd (true≢false (sym q))

pub at_most : (m : ℕ) (e : ℤ) → le (fin false m e) half ≡ true → 1 * 2 ^ 1 * (m * up e) ≤ 1 * down e
unfolding le lt eq of_bits
at_most m e h = go (ltb (m * up e * 2) (1 * 1 * down e)) (eqb (m * up e * 2) (1 * 1 * down e)) refl refl h
  where
    go : (a b : Bool) → ltb (m * up e * 2) (1 * 1 * down e) ≡ a → eqb (m * up e * 2) (1 * 1 * down e) ≡ b → a || (b && true) ≡ true → 1 * 2 ^ 1 * (m * up e) ≤ 1 * down e
    go true b p q t = omega (arith, ltb-true (m * up e * 2) (1 * 1 * down e) p)
    go false true p q t = omega (arith, eqb-true (m * up e * 2) (1 * 1 * down e) q)
    go false false p q t = absurd (true≢false (sym t))

-- a zero of either sign
none : (n u c : ℕ) → 0 < c → n * u * c ≡ 0 → n * u ≡ 0
none n u c C h = go (n * u) h
  where
    go : (p : ℕ) → p * c ≡ 0 → p ≡ 0
    go zero h = refl
    go (suc p) h = absurd (lt_irrefl 0 (subst (λ (z : ℕ). 0 < z) h (mul-pos (zero-lt-suc p) C)))

pub zero-from : (t : Bool) (m : ℕ) (e : ℤ) → m * up e ≡ 0 → le plus_zero (fin t m e) ≡ true
unfolding le lt eq of_bits
zero-from t m e h = go t (0 * 1 * down e) (m * up e * 1) (omega (arith, zero-mul (down e))) (omega arith)
  where
    go : (t : Bool) (p r : ℕ) → p ≡ 0 → r ≡ 0 → below false p t r || level false p t r ≡ true
    go true p r f g = rw (f, g)
    go false p r f g = rw (f, g)

zero-to : (t : Bool) (m : ℕ) (e : ℤ) → m * up e ≡ 0 → le (fin t m e) one ≡ true
unfolding le lt eq of_bits
zero-to t m e h = go t (m * up e * 1) (1 * 1 * down e) (omega arith) (omega (arith, down_pos e))
  where
    go : (t : Bool) (p r : ℕ) → p ≡ 0 → 0 < r → below t p false r || level t p false r ≡ true
    go true p r f g = rw (lt-ltb 0 (p + r) (omega arith))
    go false p r f g = rw (lt-ltb p r (omega arith))

zero-within : (x : Float) (s : Bool) (c : ℕ) → 0 < c → HasValue x s 0 c → Within plus_zero one x
unfolding is_nan
zero-within nan s c C v = absurd v
zero-within (inf t) s c C v = absurd v
zero-within (fin t m e) s c C v =
    let z : m * up e ≡ 0 = none m (up e) c C (v.1 ∙ zero-mul (down e)) in
    record { number = refl; from = zero-from t m e z; to = zero-to t m e z }

twice-zero : (n c : ℕ) → 0 < c → n ≡ 0 → Within plus_zero one (round binary64 true n c)
twice-zero n c C h = rw h (zero-within (round binary64 true 0 c) true c C (round_exact binary64 true 0 c 0 0 C (lit< tt) (lit< tt) (sym (zero-mul c))))

pub twice-within : (u : Float) → Within plus_zero half u → Within plus_zero one (two ⊗ u)
unfolding mul of_bits
twice-within nan w = absurd (true≢false (unfold is_nan in w.number))
twice-within (inf true) w = absurd (true≢false (sym (unfold le lt eq of_bits in w.from)))
twice-within (inf false) w = absurd (true≢false (sym (unfold le lt eq of_bits in w.to)))
twice-within (fin false m e) w = fraction-within (1 * 2 ^ 1 * (m * up e)) (1 * down e) (omega (arith, down_pos e)) (at_most m e w.to)
twice-within (fin true m e) w = twice-zero (1 * 2 ^ 1 * (m * up e)) (1 * down e) (omega (arith, down_pos e)) (omega (arith, no_size_lem m e w.from))
