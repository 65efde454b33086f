-- The root of a finite value above 0 is finite and above 0. The one idea: it is the nearest value to the true root, which is far above half the smallest value, so it is
-- not 0. Assumes nothing.
use Rattle.std.proofs.Common.{◌≡◌, ℕ, zero, suc, ◌+◌, ◌-◌, ◌*◌, ◌%◌, ◌^◌, ◌<◌, ◌≤◌, Bool, true, false, ◌&&◌, T, eqb, ltb, leb, ℤ, pos, negsuc, sym, refl, ap, ◌∙◌, true≢false, lt_of_lt_of_le, lt_irrefl, mul_assoc, mul-pos, zero-mul, mul-one, arith, lt→ltb, leb→le, pow_pos, pow-add, ltb-true}
use lib.Pow.{pow-lt}
use lib.Ieee.{Float, nan, inf, fin, binary64, up, down, lt, fits, of_bits}
use lib.Ieee.Fits.{and_l, and_r}
use lib.Ieee.Bits.{of_bits-fits}
use lib.Ieee.Exact.{HasValue}
use lib.Ieee.Scale.{finite}
use lib.Ieee.Positive.{positive, positive_of_value, value_pos}
use Rattle.floats.specs.Words.{plus_zero, float}
use Rattle.roots.specs.Root.{sqrt_of}
use Rattle.roots.specs.Nearest.{Holds}
use Rattle.roots.proofs.Nearest.{root-is-nearest}

pub above-positive : (v : Float) → finite v ≡ true → lt plus_zero v ≡ true → T (positive v)
unfolding lt of_bits
above-positive nan f h = absurd (true≢false (sym f))
above-positive (inf s) f h = absurd (true≢false (sym f))
above-positive (fin true m e) f h = absurd (true≢false (sym h))
above-positive (fin false zero e) f h = absurd (omega (arith, ltb-true (0 * down e) (0 * up e * 1) h, zero-mul (up e)))
above-positive (fin false (suc m) e) f h = lt→ltb 0 (suc m) (omega arith)

-- ---- a value that fits, in units of 2 ^ -l
small_power : (a l : ℕ) → 2 ^ a ≤ 2 ^ l → a ≤ l
small_power a l h = let n : l < a → ⊥ = λ g. lt_irrefl (2 ^ l) (lt_of_lt_of_le (pow-lt g) h) in omega (arith, n)

units_of_lem : (l m : ℕ) (e : ℤ) → down e ≤ 2 ^ l → (a : ℕ) × (m * up e * 2 ^ l ≡ a * down e)
units_of_lem l m (pos k) h = (m * 2 ^ k * 2 ^ l, sym (mul-one (m * 2 ^ k * 2 ^ l)))
units_of_lem l m (negsuc k) h =
    let s : l - suc k + suc k ≡ l = omega (arith, small_power (suc k) l h) in
    (m * 2 ^ (l - suc k), ap (λ (z : ℕ). m * 1 * 2 ^ z) (sym s) ∙ rw (pow-add 2 (l - suc k) (suc k), mul-one m, mul_assoc))

fits-down : (s : Bool) (m : ℕ) (e : ℤ) → T (fits binary64 (fin s (suc m) e)) → down e ≤ 2 ^ 1074
unfolding fits
fits-down s m e h =
    let A = eqb (suc m % 2) 1 in
    let B = ltb (suc m) (2 ^ 53) in
    let C = leb (down e) (2 ^ 1074) in
    leb→le (down e) (2 ^ 1074) (and_r (A && B) C (and_l (A && B && C) (ltb (suc m * up e) (2 ^ 1024 * down e)) h))

holds-units : (v : Float) → T (fits binary64 v) → T (positive v) → (a : ℕ) × Holds v a
holds-units nan f p = absurd p
holds-units (inf s) f p = absurd p
holds-units (fin true m e) f p = absurd p
holds-units (fin false zero e) f p = absurd p
holds-units (fin false (suc m) e) f p = let u = units_of_lem 1074 (suc m) e (fits-down false m e f) in (u.0, (f, (refl, u.1)))

-- the smallest value, of one unit
least : Holds (float 1) 1
least = (of_bits-fits binary64 1, value)
  where
    value : HasValue (float 1) false 1 (2 ^ 1074)
    value = unfold of_bits in (refl, refl)

-- four times the root's square is above 1 unit's
far : (l a r : ℕ) → 0 < a → 0 < l → (r < 1 → 4 * (a * l) ≤ (r + 1) * (r + 1)) → 0 < r
far l a zero A L h = absurd (omega (arith, h (omega arith), mul-pos A L))
far l a (suc r) A L h = omega arith

pub root-positive : (v : Float) → T (fits binary64 v) → finite v ≡ true → lt plus_zero v ≡ true → T (positive (sqrt_of v))
root-positive v f n h =
    let p = above-positive v n h in
    let u = holds-units v f p in
    let A = value_pos v u.0 (2 ^ 1074) p (pow_pos 1074) u.1.1 in
    let r = root-is-nearest v u.0 u.1 A in
    positive_of_value (sqrt_of v) r.0 (2 ^ 1074) r.1.holds.1 (far (2 ^ 1074) u.0 r.0 A (pow_pos 1074) (r.1.above (float 1) 1 least))
