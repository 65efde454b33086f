-- The theorems about the statistic. Each is shown of the definition, where binary64 holds the run; that, and so each of them, is what `durbin_watson` promises of its answer.
-- Assumes nothing.
use mathlib.Core.Path.{◌≡◌, refl, sym, ◌∙◌, subst}
use Prim.Native.Nat.{ℕ, ◌+◌, ◌-◌, ◌^◌, ◌≤◌, ◌<◌, zero-le}
use native.Mathlib.Omega.{arith}
use mathlib.Core.Bool.{false}
use mathlib.Core.List.{List}
use lib.Dec.{T, lit≤, lit<}
use lib.ListN.{length}
use lib.IntN.{nat_abs}
use lib.Pow.{pow_pos}
use lib.Ieee.{Float, binary64, eq, le, fits, of_bits}
use lib.Ieee.Exact.{HasValue}
use lib.Ieee.Order.{le_of_values}
use lib.Ieee.Scale.{finite}
use Rattle.floats.specs.Words.{◌‼◌, plus_zero}
use Rattle.floats.specs.Search.{first_bad}
use Rattle.std.specs.Prelude.{None, Result, Ok}
use Rattle.floats.specs.Held.{held?}
use Rattle.floats.specs.Limits.{max_rows}
use Rattle.floats.proofs.HeldLaws.{all-at}
use Rattle.autocorrelation.specs.declared.StatisticError.{StatisticError}
use Rattle.autocorrelation.specs.Statistic.{squares, durbin_watson, durbin_watson_answer}
use Rattle.autocorrelation.specs.Bound.{exact, exact_difference, exact_squares, exact_differences, Accurate, sized?, numbers_sized?, differences_sized?, Sure, Told}
use Rattle.autocorrelation.proofs.Units.{Number, number, valued-finite}
use Rattle.autocorrelation.proofs.SumLaws.{Among}
use Rattle.autocorrelation.proofs.Accuracy.{Window, accurate}
use Rattle.autocorrelation.proofs.Range.{in-range}
use Rattle.autocorrelation.proofs.Rules.{among, wider, all-finite, Accepted, accepted, apart}

-- ---- the two windows: 2^-250 to 2^250, and 2^-272 to 2^221
wide : Window (2 ^ 824) (2 ^ 1324)
wide = record { half = 2 ^ 823; top = 2 ^ 1583; bottom = 2 ^ 573; halves = lit≤ tt; normal = lit≤ tt; under = lit< tt; short = lit< tt; total = lit≤ tt; above = lit≤ tt; fine = lit≤ tt; below = lit≤ tt; room = lit< tt; some = lit< tt }

narrow : Window (2 ^ 802) (2 ^ 1295)
narrow = record { half = 2 ^ 801; top = 2 ^ 1525; bottom = 2 ^ 529; halves = lit≤ tt; normal = lit≤ tt; under = lit< tt; short = lit< tt; total = lit≤ tt; above = lit≤ tt; fine = lit≤ tt; below = lit≤ tt; room = lit< tt; some = lit< tt }

-- ---- of the definition, where binary64 holds the run
numbers : (e : List Float) → T (held? e) → first_bad e ≡ None → (t : ℕ) → t < length e → Number (e ‼ t)
numbers e h f t g = number (e ‼ t) (all-finite e f t g) (all-at (length e) (λ t. fits binary64 (e ‼ t)) t h g)

-- THE BOUND, where every number and every exact difference of neighbours is 0 or from 2^-250 to 2^250 in size: such a run's statistic does not overflow
pub statistic-accurate : (e : List Float) → 2 ≤ length e → length e ≤ 256 → T (held? e) → first_bad e ≡ None → eq (squares e) plus_zero ≡ false
    → T (numbers_sized? 250 e) → T (differences_sized? 250 e) → Accurate (length e) (durbin_watson e) (exact_differences e) (exact_squares e)
statistic-accurate e a b h f s p q =
    accurate (2 ^ 824) (2 ^ 1324) wide e (length e) a b (numbers e h f)
    (λ (t : ℕ) (g : t < length e). among 250 (exact (e ‼ t)) (all-at (length e) (λ t. sized? 250 (exact (e ‼ t))) t p g))
    (λ (t : ℕ) (g : t < length e - 1). among 250 (exact_difference e t) (all-at (length e - 1) (λ t. sized? 250 (exact_difference e t)) t q g)) s

-- the same with no rule on differences, where every number is 0 or from 2^-220 to 2^220 in size
pub statistic-accurate-narrow : (e : List Float) → 2 ≤ length e → length e ≤ 256 → T (held? e) → first_bad e ≡ None → eq (squares e) plus_zero ≡ false
    → T (numbers_sized? 220 e) → Accurate (length e) (durbin_watson e) (exact_differences e) (exact_squares e)
statistic-accurate-narrow e a b h f s p =
    accurate (2 ^ 802) (2 ^ 1295) narrow e (length e) a b (numbers e h f) (λ (t : ℕ) (g : t < length e). wider (lit≤ tt) (lit≤ tt) (size t g))
    (λ (t : ℕ) (g : t < length e - 1). apart (numbers e h f t (omega arith)) (numbers e h f (t + 1) (omega arith)) (size t (omega arith)) (size (t + 1) (omega arith))) s
  where
    size : (t : ℕ) → t < length e → Among (2 ^ 854) (2 ^ 1294) (nat_abs (exact (e ‼ t)))
    size t g = among 220 (exact (e ‼ t)) (all-at (length e) (λ t. sized? 220 (exact (e ‼ t))) t p g)

-- ---- of a statistic that the definition gives
module _ (e : List Float) (d : Float) (v : durbin_watson_answer e ≡ Ok d) (h : T (held? e)) where
  abbrev run : Accepted e d
  run = accepted e d v

  bounded : length e ≤ max_rows → T (numbers_sized? 250 e) → T (differences_sized? 250 e) → Accurate (length e) d (exact_differences e) (exact_squares e)
  bounded b p q =
      subst (λ (x : Float). Accurate (length e) x (exact_differences e) (exact_squares e)) run.is (statistic-accurate e run.many b h run.numbers run.some p q)

  bounded-narrow : length e ≤ max_rows → T (numbers_sized? 220 e) → Accurate (length e) d (exact_differences e) (exact_squares e)
  bounded-narrow b p =
      subst (λ (x : Float). Accurate (length e) x (exact_differences e) (exact_squares e)) run.is (statistic-accurate-narrow e run.many b h run.numbers run.some p)

  -- a statistic is finite and not negative
  ranged : T (finite d) × T (le plus_zero d)
  ranged =
      let q = in-range e (length e) run.many (numbers e h run.numbers) run.above run.below run.some in
      subst (λ (x : Float). T (finite x) × T (le plus_zero x)) run.is
      (valued-finite (durbin_watson e) false q.0 q.1, le_of_values plus_zero (durbin_watson e) 0 1 q.0 (2 ^ 1074) (lit< tt) (pow_pos 1074) none q.1 zero-le)
    where
      none : HasValue plus_zero false 0 1
      none = unfold of_bits in (refl, refl)

  pub sure : Sure d e
  sure = record { held = h; is_finite = ranged.0; not_negative = ranged.1; accurate = bounded; accurate-narrow = bounded-narrow }

pub answer-accurate : (e : List Float) (d : Float) → durbin_watson_answer e ≡ Ok d → length e ≤ 256 → T (held? e)
    → T (numbers_sized? 250 e) → T (differences_sized? 250 e) → Accurate (length e) d (exact_differences e) (exact_squares e)
answer-accurate e d v b h p q = bounded e d v h b p q

pub answer-accurate-narrow : (e : List Float) (d : Float) → durbin_watson_answer e ≡ Ok d → length e ≤ 256 → T (held? e)
    → T (numbers_sized? 220 e) → Accurate (length e) d (exact_differences e) (exact_squares e)
answer-accurate-narrow e d v b h p = bounded-narrow e d v h b p

-- a statistic that the definition gives is finite and not negative
pub answer-finite : (e : List Float) (d : Float) → durbin_watson_answer e ≡ Ok d → T (held? e) → T (finite d) × T (le plus_zero d)
answer-finite e d v h = ranged e d v h

-- any two answers that equal the definition's are one
pub one_answer : (e : List Float) (r s : Result Float StatisticError) → r ≡ durbin_watson_answer e → s ≡ durbin_watson_answer e → r ≡ s
one_answer e r s p q = p ∙ sym q

-- ---- of every answer that the promise of `durbin_watson` allows
module _ (e : List Float) where
  abbrev pub Promised : Result Float StatisticError → Type 0
  Promised r = (r ≡ durbin_watson_answer e) × Told r e

  -- any two are one
  pub one-promised : (r s : Result Float StatisticError) → Promised r → Promised s → r ≡ s
  one-promised r s p q = one_answer e r s p.0 q.0

  module _ (r : Result Float StatisticError) (promised : Promised r) (d : Float) (v : r ≡ Ok d) where
    known : Sure d e
    known = subst (λ (s : Result Float StatisticError). Told s e) v promised.1

    -- THE BOUND, where every number and every exact difference of neighbours is 0 or from 2^-250 to 2^250 in size
    pub promised-accurate : length e ≤ max_rows → T (numbers_sized? 250 e) → T (differences_sized? 250 e) → Accurate (length e) d (exact_differences e) (exact_squares e)
    promised-accurate = known.accurate

    -- the same with no rule on differences, where every number is 0 or from 2^-220 to 2^220 in size
    pub promised-accurate-narrow : length e ≤ max_rows → T (numbers_sized? 220 e) → Accurate (length e) d (exact_differences e) (exact_squares e)
    promised-accurate-narrow = known.accurate-narrow

    -- an accepted statistic is finite and not negative
    pub promised-finite : T (finite d) × T (le plus_zero d)
    promised-finite = (known.is_finite, known.not_negative)
