-- What the tests of specs/Bound.antt and an accepted answer tell. And the step from the second size rule to the first: numbers of 53 digits that are 2^-220 at
-- least are whole numbers of 2^-272, and so are their differences, which are thus 0 or 2^-272 at least. Assumes nothing.
use mathlib.Core.Path.{◌≡◌, refl, sym, ap, ◌∙◌, subst}
use mathlib.Core.Logic.{◌⊎◌, inl, inr}
use Prim.Native.Nat.{ℕ, zero, suc, ◌+◌, ◌-◌, ◌*◌, ◌^◌, ◌≤◌, ◌<◌, zero-le}
use native.Mathlib.Nat.{le_trans, le_of_eq, not-le_of_lt, zero-mul, mul_comm, mul_assoc, mul-sub, sub-add_cancel}
use native.Mathlib.Omega.{arith}
use mathlib.Core.Bool.{Bool, true, false, not, ◌&&◌, ◌||◌, cond, beq}
use mathlib.Core.List.{List}
use borrow.Author.Tests.{eqb-false, not-false}
use lib.Dec.{T, leb, eqb, leb→le, eqb→eq}
use lib.ListN.{length}
use lib.Pow.{pow-add, pow_mono, shl_lt}
use lib.IntN.{ℤ, nat_abs, ◌-ℤ◌}
use lib.Ieee.{Float, eq}
use lib.Ieee.Scale.{finite}
use lib.Ieee.Fits.{and_l, and_r}
use Rattle.floats.specs.Words.{◌‼◌, plus_zero}
use Rattle.floats.specs.Search.{first_bad}
use Rattle.std.specs.Prelude.{Option, Some, None, Result, Ok, Err}
use Rattle.floats.proofs.FirstLaws.{none-at}
use Rattle.autocorrelation.specs.declared.StatisticError.{StatisticError}
use Rattle.autocorrelation.specs.declared.StatisticError.TheVariants.{Empty, Single, NotFinite, ZeroSum, Overflow}
use Rattle.autocorrelation.specs.Statistic.{squares, differences, durbin_watson, durbin_watson_answer, of_found, value}
use Rattle.autocorrelation.specs.Bound.{exact, sized?}
use Rattle.autocorrelation.proofs.Units.{Number, number_size, apart-is}
use Rattle.autocorrelation.proofs.SumLaws.{Among}

-- ---- the size test
pub among : (k : ℕ) (z : ℤ) → T (sized? k z) → Among (2 ^ (1074 - k)) (2 ^ (1074 + k)) (nat_abs z)
among k z = go (nat_abs z) (2 ^ (1074 - k)) (2 ^ (1074 + k))
  where
    go : (a lo hi : ℕ) → T (eqb a 0 || (leb lo a && leb a hi)) → Among lo hi a
    go a lo hi = by (eqb a 0) (eqb→eq a 0)
      where
        by : (b : Bool) → (T b → a ≡ 0) → T (b || (leb lo a && leb a hi)) → Among lo hi a
        by true h u = record { from = inl (h tt); up_to = le_trans (le_of_eq (h tt)) zero-le }
        by false h u = record { from = inr (leb→le lo a (and_l (leb lo a) (leb a hi) u)); up_to = leb→le a hi (and_r (leb lo a) (leb a hi) u) }

pub wider : {lo hi low high a : ℕ} → low ≤ lo → hi ≤ high → Among lo hi a → Among low high a
wider {lo} {hi} {low} {high} {a} h g r = record { from = go r.from; up_to = le_trans r.up_to g }
  where
    go : (a ≡ 0) ⊎ (lo ≤ a) → (a ≡ 0) ⊎ (low ≤ a)
    go (inl z) = inl z
    go (inr l) = inr (le_trans h l)

-- ---- an accepted run
pub all-finite : (e : List Float) → first_bad e ≡ None → (t : ℕ) → t < length e → T (finite (e ‼ t))
unfolding first_bad
all-finite e h t g = subst T (sym (not-false (finite (e ‼ t)) (none-at (λ t. not (finite (e ‼ t))) (length e) t h g))) tt

pub record Accepted (e : List Float) (d : Float) : Type 0 where
  pub many : 2 ≤ length e
  pub numbers : first_bad e ≡ None
  pub some : eq (squares e) plus_zero ≡ false
  pub below : finite (squares e) ≡ true
  pub above : finite (differences e) ≡ true
  pub is : durbin_watson e ≡ d

-- a reason why there is no statistic is no value
abbrev is_value : Result Float StatisticError → ℕ
is_value (Ok d) = 1
is_value (Err why) = 0

refused : (x : Result Float StatisticError) (d : Float) → is_value x ≡ 0 → x ≡ Ok d → ⊥
refused x d p h = omega (arith, p, ap is_value h)

past : (b : Bool) (x y : Result Float StatisticError) (d : Float) → is_value x ≡ 0 → cond b x y ≡ Ok d → (b ≡ false) × (y ≡ Ok d)
past true x y d p h = absurd (refused x d p h)
past false x y d p h = (refl, h)

unfound : (f : Option ℕ) (e : List Float) (d : Float) → of_found f e ≡ Ok d → f ≡ None
unfound None e d h = refl
unfound (Some t) e d h = absurd (refused (Err (NotFinite t)) d refl h)

both : (a b : Bool) (x y : Result Float StatisticError) (d : Float) → is_value y ≡ 0 → cond (a && b) x y ≡ Ok d → (a ≡ true) × (b ≡ true) × (x ≡ Ok d)
both true true x y d p h = (refl, refl, h)
both true false x y d p h = absurd (refused y d p h)
both false b x y d p h = absurd (refused y d p h)

pub accepted : (e : List Float) (d : Float) → durbin_watson_answer e ≡ Ok d → Accepted e d
unfolding durbin_watson_answer
accepted e d h =
    let a = past _ (Err Empty) _ d refl h in
    let b = past _ (Err Single) _ d refl a.1 in
    let none : first_bad e ≡ None = unfound (first_bad e) e d b.1 in
    let c = past _ (Err ZeroSum) _ d refl (rw none at b.1) in
    let v = both _ _ _ (Err Overflow) d refl c.1 in
    record {
      many = few (length e) (eqb-false (length e) 0 a.0) (eqb-false (length e) 1 b.0);
      numbers = none;
      some = c.0;
      below = v.0;
      above = v.1;
      is = ap value v.2;
    }
  where
    few : (n : ℕ) → (n ≡ 0 → ⊥) → (n ≡ 1 → ⊥) → 2 ≤ n
    few n p q = omega arith

-- ---- numbers of 2^-220 to 2^220: their exact differences

-- m of 53 digits
exponent : (m j : ℕ) → m < 2 ^ 53 → 2 ^ 854 ≤ m * 2 ^ j → 802 ≤ j
exponent m j M h = let g : ¬ (53 + j ≤ 854) = λ (g : 53 + j ≤ 854). not-le_of_lt (shl_lt 53 j M) (le_trans (pow_mono g) h) in omega arith

whole : {x : Float} (u : Number x) → Among (2 ^ 854) (2 ^ 1294) (nat_abs (exact x)) → (q : ℕ) × (u.units ≡ q * 2 ^ 802)
whole u r = rw u.is (go u.m u.j u.few (subst (λ (a : ℕ). (a ≡ 0) ⊎ (2 ^ 854 ≤ a)) (number_size u ∙ u.is) r.from))
  where
    go : (m j : ℕ) → m < 2 ^ 53 → (m * 2 ^ j ≡ 0) ⊎ (2 ^ 854 ≤ m * 2 ^ j) → (q : ℕ) × (m * 2 ^ j ≡ q * 2 ^ 802)
    go m j f (inl z) = (0, z)
    go m j f (inr h) = (m * 2 ^ (j - 802), ap (λ (i : ℕ). m * 2 ^ i) (sym (sub-add_cancel (exponent m j f h))) ∙ ap (λ (i : ℕ). m * i) (pow-add 2 (j - 802) 802) ∙ sym (mul_assoc m (2 ^ (j - 802)) (2 ^ 802)))

spaced : (b : Bool) (A B q r step : ℕ) → A ≡ q * step → B ≡ r * step → (v : ℕ) × (cond b (A - B + (B - A)) (A + B) ≡ v * step)
spaced true A B q r step f g = (q - r + (r - q), omega (arith, mul_comm (q - r) step, mul-sub step q r, mul_comm (r - q) step, mul-sub step r q, mul_comm step q, mul_comm step r))
spaced false A B q r step f g = (q + r, omega arith)

least : (v step a : ℕ) → a ≡ v * step → (a ≡ 0) ⊎ (step ≤ a)
least zero step a e = inl (e ∙ zero-mul step)
least (suc v) step a e = inr (omega arith)

pub most : (b : Bool) (A B H : ℕ) → A ≤ H → B ≤ H → cond b (A - B + (B - A)) (A + B) ≤ H * 2
most true A B H h g = omega arith
most false A B H h g = omega arith

pub apart : {x y : Float} → Number x → Number y → Among (2 ^ 854) (2 ^ 1294) (nat_abs (exact x)) → Among (2 ^ 854) (2 ^ 1294) (nat_abs (exact y)) → Among (2 ^ 802) (2 ^ 1295) (nat_abs (exact y -ℤ exact x))
apart {x} {y} u v p q =
    let a = whole v q in
    let b = whole u p in
    let s = spaced (beq v.sign u.sign) v.units u.units a.0 b.0 (2 ^ 802) a.1 b.1 in
    record {
      from = least s.0 (2 ^ 802) (nat_abs (exact y -ℤ exact x)) (apart-is u v ∙ s.1);
      up_to = le_trans (le_of_eq (apart-is u v)) (most (beq v.sign u.sign) v.units u.units (2 ^ 1294) (rw (number_size v) at q.up_to) (rw (number_size u) at p.up_to));
    }
