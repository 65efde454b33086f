-- Multiplying every residual by one power of two changes nothing in the result or the rooms, where the residuals are 0 or of demand 3's sizes before and after, and where all are
-- 0. A product with the power is exact there, so of the two runs the one with the smaller residuals is the first of Scales.antt. Assumes nothing.
use mathlib.Core.Path.{◌≡◌, refl, sym, ap, ◌∙◌, subst}
use mathlib.Core.Logic.{◌⊎◌, inl, inr}
use Prim.Native.Nat.{ℕ, zero, suc, ◌+◌, ◌-◌, ◌*◌, ◌^◌, ◌≤◌, ◌<◌, zero-le}
use native.Mathlib.Nat.{le_trans, le_of_eq, lt_of_le_of_lt, lt_irrefl, eq-zero-or-pos, zero-mul, one-mul, mul-one, mul_comm, mul_assoc, mul_right_comm, mul-mul-mul_comm, mul-pos, mul-le-mul, mul-le-mul_left, eq_of_mul-eq-mul_right, sub-add_cancel}
use native.Mathlib.Omega.{arith}
use mathlib.Core.Bool.{Bool, true, false, not, ◌&&◌, ◌||◌, cond}
use mathlib.Core.List.{List, [], ◌∷◌}
use borrow.Author.Tests.{eq-eqb}
use lib.Dec.{T, eqb, eqb→eq, lit<}
use lib.Pow.{pow-add, pow_pos, pow_mono}
use lib.IntN.{ℤ, pos, negsuc, nat_abs}
use lib.ListN.{length, length-map}
use lib.Ieee.{Float, nan, inf, fin, binary64, up, down, unlike, round, mul, eq, fits}
use lib.Ieee.Exact.{round_exact}
use lib.Ieee.Fits.{up_pos, down_pos, and_l, mul-fits}
use lib.Ieee.Scale.{round_same, finite}
use lib.Ieee.Positive.{first_pos}
use Rattle.std.specs.Prelude.{Result, Ok, Err}
use Rattle.floats.specs.Words.{◌⊗◌, ◌⊘◌, ◌‼◌, plus_zero}
use Rattle.floats.specs.Held.{held?}
use Rattle.floats.proofs.HeldLaws.{all-at, all_of}
use Rattle.autocorrelation.specs.Bound.{exact, differences_sized?}
use Rattle.autocorrelation.specs.Statistic.{durbin_watson_answer}
use Rattle.autocorrelation.specs.declared.StatisticError.{StatisticError}
use Rattle.autocorrelation.specs.declared.StatisticError.TheVariants.{ZeroSum, Overflow}
use Rattle.autocorrelation.proofs.Rounding.{Valued}
use Rattle.autocorrelation.proofs.Units.{quotient_is, Number, number, number_size}
use Rattle.autocorrelation.proofs.SumLaws.{Among}
use Rattle.autocorrelation.proofs.Rules.{all-finite}
use Rattle.theorems.specs.Scan.{power, scaled, exactly, size_limit, power_limit, sized, ruled, UnitLaw, StatisticUnitLaw, SizeUnitLaw, ExactUnitLaw, ZeroUnitLaw}
use Rattle.theorems.proofs.One.{Promised}
use Rattle.outcome.specs.declared.Alternative.{Alternative}
use Rattle.outcome.specs.declared.Outcome.{Outcome}
use Rattle.outcome.specs.declared.Choice.{Choice}
use Rattle.theorems.proofs.Seen.{answer-same, alike, allowed}
use Rattle.theorems.proofs.Scales.{lo, hi, powers-divide, powers-fit, Times, Pair, zeros-behind, none_alike, zero_is, is_finite, zero-alone, sums-times, size_of, number_of}

-- ---- the statistic, by its two sums
abbrev told : Float → Float → Result Float StatisticError
told ss sd = cond (eq ss plus_zero) (Err ZeroSum) (cond (finite ss && finite sd) (Ok (sd ⊘ ss)) (Err Overflow))

same-told : {k b c : ℕ} {ss ss' sd sd' : Float} → Times k b false false ss ss' → Times k c false false sd sd' → told ss' sd' ≡ told ss sd
same-told {k} {b} {c} {ss} {ss'} {sd} {sd'} p q =
    rw (zero_is ss false p.units p.val, zero_is ss' false (p.units * 2 ^ k) p.val', is_finite ss false p.units p.val, is_finite sd false q.units q.val, is_finite ss' false (p.units * 2 ^ k) p.val', is_finite sd' false (q.units * 2 ^ k) q.val', none_alike (p.units * 2 ^ k) p.units (λ z. eq_of_mul-eq-mul_right (2 ^ k) (pow_pos k) p.units 0 (z ∙ sym (zero-mul (2 ^ k)))) (λ z. ap (λ (i : ℕ). i * 2 ^ k) z ∙ zero-mul (2 ^ k)))
    (go p.units q.units (eq-zero-or-pos p.units) p.val p.val' q.val q.val')
  where
    go : (B A : ℕ) → (B ≡ 0) ⊎ (0 < B) → Valued ss false B → Valued ss' false (B * 2 ^ k) → Valued sd false A → Valued sd' false (A * 2 ^ k) → cond (eqb B 0) (Err ZeroSum) (Ok (sd' ⊘ ss')) ≡ cond (eqb B 0) (Err ZeroSum) (Ok (sd ⊘ ss))
    go B A (inl z) v v' u u' = rw (eq-eqb B 0 z) refl
    go B A (inr P) v v' u u' =
        ap (λ (d : Float). cond (eqb B 0) (Err ZeroSum) (Ok d))
        (quotient_is sd' ss' (A * 2 ^ k) (B * 2 ^ k) u' v' (mul-pos P (pow_pos k))
        ∙ round_same binary64 false (A * 2 ^ k) (B * 2 ^ k) A B (mul-pos P (pow_pos k)) P (mul_right_comm A (2 ^ k) B ∙ mul_assoc A B (2 ^ k))
        ∙ sym (quotient_is sd ss A B u v P))

-- ---- two runs
record Runs (k : ℕ) (e e' : List Float) : Type 0 where
  long : length e' ≡ length e
  ends : (t : ℕ) → t < length e → finite (e' ‼ t) ≡ finite (e ‼ t)
  pairs : (t : ℕ) → t < length e → T (finite (e ‼ t)) → Pair k (e ‼ t) (e' ‼ t)

runs-told : {k : ℕ} {e e' : List Float} → Runs k e e' → durbin_watson_answer e' ≡ durbin_watson_answer e
runs-told {k} {e} {e'} r =
    answer-same e e' r.long r.ends
    (λ many none. let q = sums-times e e' (length e) many (λ (t : ℕ) (l : t < length e). r.pairs t l (all-finite e none t l)) in rw r.long (same-told q.0 q.1))

-- ---- a product with 2^j
at_scaled : (j : ℤ) (e : List Float) (t : ℕ) → scaled j e ‼ t ≡ e ‼ t ⊗ power j
unfolding mul
at_scaled j [] t = refl
at_scaled j (x ∷ e) zero = refl
at_scaled j (x ∷ e) (suc t) = at_scaled j e t

product_is : (x : Float) (s : Bool) (A : ℕ) (j : ℤ) → Valued x s A → x ⊗ power j ≡ round binary64 s (A * up j) (2 ^ 1074 * down j)
unfolding mul
product_is nan s A j v = absurd v
product_is (inf r) s A j v = absurd v
product_is (fin r m e) s A j v =
    rw (plain r, v.0)
    (round_same binary64 s (m * up e * (1 * up j)) (down e * down j) (A * up j) (2 ^ 1074 * down j) (mul-pos (down_pos e) (down_pos j)) (mul-pos (pow_pos 1074) (down_pos j)) (cross (m * up e) (2 ^ 1074) (down e) v.1))
  where
    plain : (r : Bool) → unlike r false ≡ r
    plain true = refl
    plain false = refl

    cross : (n L d : ℕ) → n * L ≡ A * d → n * (1 * up j) * (L * down j) ≡ A * up j * (d * down j)
    cross n L d h = ap (λ (z : ℕ). n * z * (L * down j)) (one-mul (up j)) ∙ mul-mul-mul_comm n (up j) L (down j) ∙ ap (λ (z : ℕ). z * (up j * down j)) h ∙ mul-mul-mul_comm A d (up j) (down j)

-- x' is 2^j times x, exactly
record Shift (j : ℤ) (x x' : Float) : Type 0 where
  old : Number x
  new : Number x'
  signs : new.sign ≡ old.sign
  sizes : old.units * up j ≡ new.units * down j

-- where that is m of 53 digits, and l zeros
shift : {x : Float} (u : Number x) (j : ℤ) (m l : ℕ) → m < 2 ^ 53 → u.units * up j ≡ m * 2 ^ l * down j → m * 2 ^ l < 2 ^ 2098 → Shift j x (x ⊗ power j)
shift {x} u j m l few h f = record {
  old = u;
  new = record {
    sign = u.sign;
    units = m * 2 ^ l;
    val =
        rw (product_is x u.sign u.units j u.val, round_same binary64 u.sign (u.units * up j) (2 ^ 1074 * down j) (m * 2 ^ l) (2 ^ 1074) (mul-pos (pow_pos 1074) (down_pos j)) (pow_pos 1074) (cross (u.units * up j) (m * 2 ^ l) (2 ^ 1074) h))
        (round_exact binary64 u.sign (m * 2 ^ l) (2 ^ 1074) m l (pow_pos 1074) few f refl);
    m = m;
    j = l;
    is = refl;
    few = few;
    under = f;
  };
  signs = refl;
  sizes = h;
}
  where
    cross : (a b L : ℕ) → a ≡ b * down j → a * L ≡ b * (L * down j)
    cross a b L h = ap (λ (z : ℕ). z * L) h ∙ mul_assoc b (down j) L ∙ ap (λ (z : ℕ). b * z) (mul_comm (down j) L)

-- of 0, whatever j is
shift_none : {x : Float} (u : Number x) (j : ℤ) → u.units ≡ 0 → Shift j x (x ⊗ power j)
shift_none u j z = shift u j 0 0 (lit< tt) (ap (λ (i : ℕ). i * up j) z ∙ zero-mul (up j) ∙ sym (zero-mul (down j))) (lit< tt)

-- of any number, where the product is exact
shift-exact : {x : Float} (u : Number x) (j : ℤ) → nat_abs (exact (x ⊗ power j)) * down j ≡ nat_abs (exact x) * up j → Shift j x (x ⊗ power j)
shift-exact {x} u j h = go (eq-zero-or-pos u.units)
  where
    moved : u.units * up j ≡ nat_abs (exact (x ⊗ power j)) * down j
    moved = ap (λ (i : ℕ). i * up j) (sym (number_size u)) ∙ sym h

    -- an infinity and a NaN have no units
    some-finite : (y : Float) → 0 < nat_abs (exact y) → T (finite y)
    some-finite nan p = lt_irrefl 0 p
    some-finite (inf s) p = lt_irrefl 0 p
    some-finite (fin s m d) p = tt

    go : (u.units ≡ 0) ⊎ (0 < u.units) → Shift j x (x ⊗ power j)
    go (inl z) = shift_none u j z
    go (inr p) =
        let some : 0 < nat_abs (exact (x ⊗ power j)) = first_pos (nat_abs (exact (x ⊗ power j))) (down j) (subst (λ (i : ℕ). 0 < i) moved (mul-pos p (up_pos j))) in
        let v = number (x ⊗ power j) (some-finite (x ⊗ power j) some) (mul-fits binary64 x (power j)) in
        shift u j v.m v.j v.few (moved ∙ ap (λ (i : ℕ). i * down j) (number_size v ∙ v.is)) v.under

-- of lo to hi units, where j is at most the limit
shift-sized : {x : Float} (u : Number x) (j : ℤ) → nat_abs j ≤ power_limit → Among lo hi u.units → Shift j x (x ⊗ power j)
shift-sized {x} u j near r = go r.from j near
  where
    go : (u.units ≡ 0) ⊎ (lo ≤ u.units) → (j : ℤ) → nat_abs j ≤ power_limit → Shift j x (x ⊗ power j)
    go (inl z) j near = shift_none u j z
    go (inr l) (pos k) near =
        let e : u.units * 2 ^ k ≡ u.m * 2 ^ (u.j + k) = ap (λ (i : ℕ). i * 2 ^ k) u.is ∙ mul_assoc u.m (2 ^ u.j) (2 ^ k) ∙ ap (λ (i : ℕ). u.m * i) (sym (pow-add 2 u.j k)) in
        shift u (pos k) u.m (u.j + k) u.few (e ∙ sym (mul-one (u.m * 2 ^ (u.j + k)))) (lt_of_le_of_lt (le_trans (le_of_eq (sym e)) (mul-le-mul r.up_to (pow_mono near))) powers-fit)
    go (inr l) (negsuc k) near =
        let b : suc k ≤ u.j = le_trans near (le_trans powers-divide (zeros-behind u.m u.j u.few (le_trans l (le_of_eq u.is)))) in
        let e : 2 ^ u.j ≡ 2 ^ (u.j - suc k) * 2 ^ suc k = ap (λ (i : ℕ). 2 ^ i) (sym (sub-add_cancel b)) ∙ pow-add 2 (u.j - suc k) (suc k) in
        shift u (negsuc k) u.m (u.j - suc k) u.few (mul-one u.units ∙ u.is ∙ ap (λ (i : ℕ). u.m * i) e ∙ sym (mul_assoc u.m (2 ^ (u.j - suc k)) (2 ^ suc k)))
        (lt_of_le_of_lt (mul-le-mul_left u.m (pow_mono (less u.j (suc k)))) u.under)
      where
        less : (a b : ℕ) → a - b ≤ a
        less a b = omega arith

-- ---- every residual times 2^j
scaled-long : (j : ℤ) (e : List Float) → length (scaled j e) ≡ length e
scaled-long j e = length-map e (λ r. r ⊗ power j)

module _ (j : ℤ) (e : List Float) (shifts : (t : ℕ) → t < length e → T (finite (e ‼ t)) → Shift j (e ‼ t) (e ‼ t ⊗ power j)) where
  scaled-ends : (t : ℕ) → t < length e → finite (scaled j e ‼ t) ≡ finite (e ‼ t)
  scaled-ends t l = ap finite (at_scaled j e t) ∙ go (e ‼ t) (shifts t l)
    where
      go : (x : Float) → (T (finite x) → Shift j x (x ⊗ power j)) → finite (x ⊗ power j) ≡ finite x
      go nan f = unfold mul in refl
      go (inf s) f = unfold mul in refl
      go (fin s m d) f = let n = (f tt).new in is_finite (fin s m d ⊗ power j) n.sign n.units n.val

  scaled-shift : (t : ℕ) → t < length e → T (finite (e ‼ t)) → Shift j (e ‼ t) (scaled j e ‼ t)
  scaled-shift t l f = subst (Shift j (e ‼ t)) (sym (at_scaled j e t)) (shifts t l f)

-- of the two runs that with the smaller residuals is the first
scaled-told : (j : ℤ) (e : List Float) → T (sized e) → T (sized (scaled j e)) → ((t : ℕ) → t < length e → T (finite (e ‼ t)) → Shift j (e ‼ t) (e ‼ t ⊗ power j))
    → durbin_watson_answer (scaled j e) ≡ durbin_watson_answer e
scaled-told (pos k) e size size' shifts = runs-told (record { long = long; ends = scaled-ends (pos k) e shifts; pairs = pairs })
  where
    long : length (scaled (pos k) e) ≡ length e
    long = scaled-long (pos k) e

    pairs : (t : ℕ) → t < length e → T (finite (e ‼ t)) → Pair k (e ‼ t) (scaled (pos k) e ‼ t)
    pairs t l f =
        let s = scaled-shift (pos k) e shifts t l f in
        record {
          small = s.old;
          large = s.new;
          signs = s.signs;
          sizes = sym (s.sizes ∙ mul-one s.new.units);
          from = size_of e size t l s.old;
          to = size_of (scaled (pos k) e) size' t (subst (λ (n : ℕ). t < n) (sym long) l) s.new;
        }
scaled-told (negsuc k) e size size' shifts = sym (runs-told (record { long = sym long; ends = λ t l. sym (ends t (subst (λ (n : ℕ). t < n) long l)); pairs = pairs }))
  where
    long : length (scaled (negsuc k) e) ≡ length e
    long = scaled-long (negsuc k) e

    ends : (t : ℕ) → t < length e → finite (scaled (negsuc k) e ‼ t) ≡ finite (e ‼ t)
    ends = scaled-ends (negsuc k) e shifts

    pairs : (t : ℕ) → t < length (scaled (negsuc k) e) → T (finite (scaled (negsuc k) e ‼ t)) → Pair (suc k) (scaled (negsuc k) e ‼ t) (e ‼ t)
    pairs t l f =
        let i : t < length e = subst (λ (n : ℕ). t < n) long l in
        let s = scaled-shift (negsuc k) e shifts t i (subst T (ends t i) f) in
        record {
          small = s.new;
          large = s.old;
          signs = sym s.signs;
          sizes = sym (mul-one s.old.units) ∙ s.sizes;
          from = size_of (scaled (negsuc k) e) size' t l s.new;
          to = size_of e size t i s.old;
        }

-- THE UNIT, of the statistic, for residuals of demand 3's sizes: where every product is exact, and for every j up to the limit, where each is
exact-told : (j : ℤ) (e : List Float) → T (held? e) → T (exactly j e) → T (sized e) → T (sized (scaled j e)) → durbin_watson_answer (scaled j e) ≡ durbin_watson_answer e
exact-told j e held h p q =
    scaled-told j e p q
    (λ t l f. shift-exact (number_of e held t l f) j (eqb→eq (nat_abs (exact (e ‼ t ⊗ power j)) * down j) (nat_abs (exact (e ‼ t)) * up j) (all-at (length e) (λ t. eqb (nat_abs (exact (e ‼ t ⊗ power j)) * down j) (nat_abs (exact (e ‼ t)) * up j)) t h l)))

near-told : (j : ℤ) (e : List Float) → nat_abs j ≤ power_limit → T (held? e) → T (sized e) → T (sized (scaled j e)) → durbin_watson_answer (scaled j e) ≡ durbin_watson_answer e
near-told j e near held p q = scaled-told j e p q (λ t l f. let u = number_of e held t l f in shift-sized u j near (size_of e p t l u))

-- the test, result and rooms, where every product is exact
pub exact-unit : ExactUnitLaw
exact-unit j e held h p q = alike e (scaled j e) (scaled-long j e) (exact-told j e held h p q)

-- for every j up to the limit
pub size-unit : SizeUnitLaw
size-unit j e near held p q = alike e (scaled j e) (scaled-long j e) (near-told j e near held p q)

-- by demand 3's rule: of the statistic, refusals and places too
pub statistic-unit : StatisticUnitLaw
statistic-unit j e near held p q = near-told j e near held (and_l (sized e) (differences_sized? size_limit e) p) (and_l (sized (scaled j e)) (differences_sized? size_limit (scaled j e)) q)

-- THE UNIT: of the test, result and rooms
pub unit : UnitLaw
unit j e near held p q = alike e (scaled j e) (scaled-long j e) (statistic-unit j e near held p q)

-- a product is rounded, so binary64 holds it
scaled-held : (j : ℤ) (e : List Float) → T (held? (scaled j e))
scaled-held j e =
    all_of (length (scaled j e)) (λ t. fits binary64 (scaled j e ‼ t))
    (λ t l. subst (λ (x : Float). T (fits binary64 x)) (sym (at_scaled j e t)) (mul-fits binary64 (e ‼ t) (power j)))

-- whatever the promise allows for a run, it allows for the scaled one
pub unit-allowed : (j : ℤ) (e : List Float) → nat_abs j ≤ power_limit → T (held? e) → T (ruled e) → T (ruled (scaled j e))
    → (x : List Float) (k : ℕ) (a : Alternative) (c : Choice) (matrix parts : List Float) (r : Outcome) (m p : List Float)
    → Promised e x k a c matrix parts r m p → Promised (scaled j e) x k a c matrix parts r m p
unit-allowed j e near held p q = allowed e (scaled j e) (unit j e near held p q)

-- ---- where every finite residual is 0
pub zero-unit : ZeroUnitLaw
zero-unit j e held h = alike e (scaled j e) (scaled-long j e) (runs-told (record { long = scaled-long j e; ends = scaled-ends j e shifts; pairs = pairs }))
  where
    none : (t : ℕ) → t < length e → T (finite (e ‼ t)) → (u : Number (e ‼ t)) → u.units ≡ 0
    none t l f u =
        eqb→eq u.units 0
        (subst T (zero-alone (e ‼ t) f ∙ zero_is (e ‼ t) u.sign u.units u.val) (all-at (length e) (λ t. eq (e ‼ t) plus_zero || not (finite (e ‼ t))) t h l))

    shifts : (t : ℕ) → t < length e → T (finite (e ‼ t)) → Shift j (e ‼ t) (e ‼ t ⊗ power j)
    shifts t l f = let u = number_of e held t l f in shift_none u j (none t l f u)

    pairs : (t : ℕ) → t < length e → T (finite (e ‼ t)) → Pair 0 (e ‼ t) (scaled j e ‼ t)
    pairs t l f =
        let s = scaled-shift j e shifts t l f in
        let a : s.old.units ≡ 0 = none t l f s.old in
        let b : s.new.units ≡ 0 = eq_of_mul-eq-mul_right (down j) (down_pos j) s.new.units 0 (sym s.sizes ∙ ap (λ (i : ℕ). i * up j) a ∙ zero-mul (up j) ∙ sym (zero-mul (down j))) in
        record { small = s.old; large = s.new; signs = s.signs; sizes = b ∙ sym (ap (λ (i : ℕ). i * 2 ^ 0) a); from = nothing a; to = nothing b }
      where
        nothing : {n : ℕ} → n ≡ 0 → Among lo hi n
        nothing z = record { from = inl z; up_to = le_trans (le_of_eq z) zero-le }
