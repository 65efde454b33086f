-- Where a function has no value it is NaN at every number, and not at a few: ln below 0, ln (1 + x) below -1, sin beyond its reduction's end, the tails of a variance below 0. The one idea: each test on the way
-- to a value fails there, by the order of the signs and sizes. Assumes nothing.
use Rattle.std.proofs.Common.{◌≡◌, ℕ, zero, suc, ◌+◌, ◌*◌, ◌<◌, Bool, true, false, cond, ◌&&◌, ◌||◌, eqb, ℤ, sym, refl, ◌∙◌, true≢false, zero-mul, arith, ltb-true, le-ltb, ne_eqb}
use lib.Ieee.{Float, nan, inf, fin, up, down, div, neg, lt, le, eq, of_bits}
use lib.Ieee.Fits.{down_pos}
use Rattle.floats.specs.Words.{◌⊖◌, plus_zero, one}
use Rattle.roots.specs.Root.{sqrt_of}
use Rattle.elementary.specs.Patterns.{no_number}
use Rattle.elementary.specs.Ln.{ln_of, ln1p_by, ln1p_of, least_normal, f_least}
use Rattle.elementary.specs.Sin.{sin_of, sin_reduced, furthest}
use Rattle.elementary.specs.Tails.{lower_tail, upper_tail}
use Rattle.elementary.specs.declared.NormalLaw.{NormalLaw}
use Rattle.elementary.proofs.Bounds.{over-nan, tail-nan}

no_number_lem : no_number ≡ nan
unfolding div of_bits
no_number_lem = refl

pub sin-beyond : (x : Float) → lt furthest x || lt x (neg furthest) ≡ true → sin_of x ≡ nan
unfolding sin_of
sin-beyond x h = go (lt furthest x) (lt x (neg furthest)) h ∙ no_number_lem
  where
    go : (a b : Bool) → a || b ≡ true → cond a no_number (cond b no_number (sin_reduced x)) ≡ no_number
    go true b h = refl
    go false true h = refl
    go false false h = absurd (true≢false (sym h))

-- ---- a value below -b
data Under (b : ℕ) : Float → Type 0 where
  far : Under b (inf true)
  part : (m : ℕ) (e : ℤ) → b * down e < m * up e → Under b (fin true m e)

under-zero : (x : Float) → lt x plus_zero ≡ true → Under 0 x
unfolding lt of_bits
under-zero nan h = absurd (true≢false (sym h))
under-zero (inf true) h = far
under-zero (inf false) h = absurd (true≢false (sym h))
under-zero (fin true m e) h = part m e (omega (arith, ltb-true 0 (m * up e * 1 + 0 * down e) h, zero-mul (down e)))
under-zero (fin false m e) h = absurd (omega (arith, ltb-true (m * up e * 1) (0 * down e) h, zero-mul (down e)))

under_one : (x : Float) → lt x (neg one) ≡ true → Under 1 x
unfolding lt neg of_bits
under_one nan h = absurd (true≢false (sym h))
under_one (inf true) h = far
under_one (inf false) h = absurd (true≢false (sym h))
under_one (fin true m e) h = part m e (omega (arith, ltb-true (1 * down e) (m * up e * 1) h))
under_one (fin false m e) h = absurd (true≢false (sym h))

-- a size above 0 is not level with a negative one
not-level : (a b : ℕ) → 0 < a → eqb a b && eqb a 0 ≡ false
not-level a b h = rw (ne_eqb a 0 (λ e. omega arith)) (go (eqb a b))
  where
    go : (c : Bool) → c && false ≡ false
    go true = refl
    go false = refl

no-normal : (b : ℕ) (x : Float) → Under b x → le least_normal x ≡ false
unfolding le of_bits
no-normal b x far = refl
no-normal b x (part m e h) = not-level (1 * down e) _ (omega (arith, down_pos e))

not-from : (b : ℕ) (x : Float) → Under b x → le plus_zero x ≡ false
unfolding le of_bits
not-from b x far = refl
not-from b x (part m e h) = rw (ne_eqb (0 * down e) (m * up e * 1) (λ q. omega (arith, zero-mul (down e))))

not-above : (b : ℕ) (x : Float) → Under b x → lt plus_zero x ≡ false
unfolding lt of_bits
not-above b x far = refl
not-above b x (part m e h) = refl

not-zero : (b : ℕ) (x : Float) → Under b x → eq x plus_zero ≡ false
unfolding eq of_bits
not-zero b x far = refl
not-zero b x (part m e h) = rw (ne_eqb (m * up e * 1) (0 * down e) (λ q. omega (arith, zero-mul (down e))))

not_least : (x : Float) → Under 1 x → lt f_least x ≡ false
unfolding lt of_bits
not_least x far = refl
not_least x (part m e h) = le-ltb (m * up e * 9007199254740992) (2638147582215219 * down e) (omega arith)

not-past : (x : Float) → Under 1 x → lt (neg one) x ≡ false
unfolding lt neg of_bits
not-past x far = refl
not-past x (part m e h) = le-ltb (m * up e * 1) (1 * down e) (omega arith)

not-one : (x : Float) → Under 1 x → eq x (neg one) ≡ false
unfolding eq neg of_bits
not-one x far = refl
not-one x (part m e h) = rw (ne_eqb (m * up e * 1) (1 * down e) (λ q. omega arith))

pub ln-below : (x : Float) → lt x plus_zero ≡ true → ln_of x ≡ nan
unfolding ln_of
ln-below x h = let u = under-zero x h in rw (no-normal 0 x u, not-above 0 x u, not-zero 0 x u) no_number_lem

pub ln1p-below : (x : Float) → lt x (neg one) ≡ true → ln1p_of x ≡ nan
unfolding ln1p_of ln1p_by
ln1p-below x h = let u = under_one x h in rw (not-from 1 x u, not_least x u, not-past x u, not-one x u) no_number_lem

-- ---- a variance below 0
root_none : (v : Float) → Under 0 v → sqrt_of v ≡ nan
unfolding sqrt_of
root_none v far = refl
root_none v (part zero e h) = absurd (omega (arith, zero-mul (up e), zero-mul (down e)))
root_none v (part (suc m) e h) = refl

pub tails-below : (law : NormalLaw) (x : Float) → lt law.variance plus_zero ≡ true → (lower_tail law x ≡ nan) × (upper_tail law x ≡ nan)
unfolding lower_tail upper_tail neg
tails-below law x h = rw (root_none law.variance (under-zero law.variance h), over-nan (x ⊖ law.mean)) (tail-nan, tail-nan)
