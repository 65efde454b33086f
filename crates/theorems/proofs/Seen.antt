-- Of the residuals the test sees how many there are and what `durbin_watson` answers, and nothing else: two runs that agree in both are alike to it. And that answer
-- sees of two residuals or more, none of them a NaN or an infinity, only the two sums. Assumes nothing.
use mathlib.Core.Path.{◌≡◌, refl, sym, ap, ◌∙◌, subst}
use Prim.Native.Nat.{ℕ, zero, suc, ◌≤◌, ◌<◌}
use native.Mathlib.Nat.{le_refl, le_step}
use native.Mathlib.Omega.{arith}
use mathlib.Core.Bool.{Bool, true, false, not, cond}
use mathlib.Core.List.{List}
use borrow.Author.Tests.{eqb-false}
use lib.Dec.{T, eqb}
use lib.ListN.{length}
use lib.Ieee.{Float}
use lib.Ieee.Scale.{finite}
use Rattle.std.specs.Prelude.{Option, Some, None, Err}
use Rattle.floats.specs.Words.{◌‼◌}
use Rattle.floats.specs.Search.{first_where, first_bad}
use Rattle.floats.specs.Held.{held?}
use Rattle.autocorrelation.specs.Statistic.{of_found, durbin_watson_answer}
use Rattle.autocorrelation.specs.declared.StatisticError.TheVariants.{Empty, Single}
use Rattle.outcome.specs.declared.Alternative.{Alternative}
use Rattle.outcome.specs.Refusals.{passes}
use Rattle.dwtest.specs.Test.{test_with, touched_with}
use Rattle.dwtest.specs.Vouched.{SureIf, Vouched}
use Rattle.outcome.specs.declared.Outcome.{Outcome}
use Rattle.outcome.specs.declared.Choice.{Choice}
use Rattle.theorems.specs.Scan.{Alike}
use Rattle.theorems.proofs.One.{Promised}
use Rattle.theorems.proofs.Accepted.{vouched}

-- neither 0 nor 1
pub two-at-least : (n : ℕ) → (n ≡ 0 → ⊥) → (n ≡ 1 → ⊥) → 2 ≤ n
two-at-least n u v = omega arith

-- tests that agree below n find the same place
first-same : (n : ℕ) (f g : ℕ → Bool) → ((t : ℕ) → t < n → f t ≡ g t) → first_where n f ≡ first_where n g
unfolding first_where
first-same zero f g h = refl
first-same (suc n) f g h = rw (first-same n f g (λ t l. h t (le_step l)), h n (le_refl (suc n))) refl

module _ (e e' : List Float) (long : length e' ≡ length e) where
  -- where the same residuals are finite, and of two or more that all are the sums decide alike, the answers are one
  pub answer-same : ((t : ℕ) → t < length e → finite (e' ‼ t) ≡ finite (e ‼ t)) → (2 ≤ length e → first_bad e ≡ None → of_found None e' ≡ of_found None e)
      → durbin_watson_answer e' ≡ durbin_watson_answer e
  unfolding durbin_watson_answer
  answer-same ends sums = rw (long, bad) (go (eqb (length e) 0) (eqb-false (length e) 0) (eqb (length e) 1) (eqb-false (length e) 1) (first_bad e) sums)
    where
      bad : first_bad e' ≡ first_bad e
      bad = unfold first_bad in (ap (λ (n : ℕ). first_where n (λ t. not (finite (e' ‼ t)))) long ∙ first-same (length e) (λ t. not (finite (e' ‼ t))) (λ t. not (finite (e ‼ t))) (λ t l. ap not (ends t l)))

      go : (a : Bool) → (a ≡ false → length e ≡ 0 → ⊥) → (b : Bool) → (b ≡ false → length e ≡ 1 → ⊥) → (f : Option ℕ) → (2 ≤ length e → f ≡ None → of_found None e' ≡ of_found None e)
          → cond a (Err Empty) (cond b (Err Single) (of_found f e')) ≡ cond a (Err Empty) (cond b (Err Single) (of_found f e))
      go true p b q f h = refl
      go false p true q f h = refl
      go false p false q (Some t) h = refl
      go false p false q None h = h (two-at-least (length e) (p refl) (q refl)) refl

  -- THE TEST sees no more
  pub alike : durbin_watson_answer e' ≡ durbin_watson_answer e → Alike e e'
  unfolding test_with touched_with
  alike told x k a c matrix parts = rw (long, told) (refl, refl, refl)

-- so whatever result and rooms the promise of `durbin_watson_test` allows for a run, it allows for one that is alike
pub allowed : (e e' : List Float) → Alike e e' → (x : List Float) (k : ℕ) (a : Alternative) (c : Choice) (matrix parts : List Float) (r : Outcome) (m p : List Float)
    → Promised e x k a c matrix parts r m p → Promised e' x k a c matrix parts r m p
allowed e e' h x k a c matrix parts r m p f = let s = h x k a c matrix parts in (f.0 ∙ sym s.0, f.1 ∙ sym s.1, f.2 ∙ sym s.2)

-- and what is vouched for of a run's result, is of one that is alike and as well held
pub vouched-allowed : (e e' : List Float) → Alike e e' → (T (held? e) → T (held? e')) → (x : List Float) (k : ℕ) (a : Alternative) (c : Choice) (matrix parts : List Float) (r : Outcome) (m p : List Float)
    → Promised e x k a c matrix parts r m p → Vouched r e → Vouched r e'
vouched-allowed e e' h keeps x k a c matrix parts r m p f v =
    let s = h x k a c matrix parts in
    let same = f.0 ∙ sym s.0 in
    go (passes r.refusal) v (λ held. subst (λ (o : Outcome). Vouched o e') (sym same) (vouched e' x k a c (length matrix) (length parts) held))
  where
    go : (b : Bool) → SureIf b r.statistic e → (T (held? e') → SureIf b r.statistic e') → SureIf b r.statistic e'
    go true known given = given (keeps known.held)
    go false known given = tt
