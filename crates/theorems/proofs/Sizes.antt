-- Where the residuals are 0 or of demand 3's sizes, refusal 9 is never given, and of a call that meets none of refusals 1 to 7 refusal 8 exactly where all are 0 or -0: no square
-- and no sum of them is lost to underflow or overflow. Then document 01's table, by its rows (Order's as-document). Assumes nothing.
use mathlib.Core.Path.{◌≡◌, refl, sym, ap, ◌∙◌, subst}
use mathlib.Core.Logic.{◌⊎◌, inl, inr}
use Prim.Native.Nat.{ℕ, zero, suc, ◌+◌, ◌*◌, ◌^◌, ◌≤◌, ◌<◌}
use native.Mathlib.Nat.{le_refl, le_trans, le_of_eq, le_step, lt_of_le_of_lt, lt_irrefl, mul-one, mul-pos, mul-le-mul, mul-le-mul_right, eq_of_mul-eq-mul_right, add-le-add, eq-zero-or-pos}
use native.Mathlib.Omega.{arith}
use mathlib.Core.Bool.{Bool, true, false, not, ◌&&◌, ◌||◌, cond, true≢false}
use mathlib.Core.List.{List, [], ◌∷◌, ◌++◌}
use borrow.Author.Tests.{eqb-false, ne_eqb}
use lib.Dec.{T, leb, eqb, leb→le, eqb-suc-zero, lit≤, lit<}
use lib.Pow.{pow_pos, pow_mono}
use lib.ListN.{length, take, drop}
use lib.Ieee.{Float, binary64, round, eq, neg, of_bits}
use lib.Ieee.Bits.{is_false}
use lib.Ieee.Fits.{and_l, and_r}
use lib.Ieee.Scale.{finite}
use Rattle.std.specs.Prelude.{Option, Some, None}
use Rattle.floats.specs.Words.{◌⊕◌, ◌‼◌, plus_zero, minus_zero, square_of}
use Rattle.floats.specs.Sums.{sum_of}
use Rattle.floats.specs.Search.{first_bad}
use Rattle.floats.specs.Held.{all?, held?}
use Rattle.autocorrelation.specs.Statistic.{squares, differences}
use Rattle.autocorrelation.proofs.Close.{Close, close-sym, close-zero}
use Rattle.autocorrelation.proofs.Rounding.{Valued, round_whole, round-fine}
use Rattle.autocorrelation.proofs.Units.{plus-is, start_is, square-is, Number}
use Rattle.autocorrelation.proofs.SumLaws.{Among}
use Rattle.autocorrelation.proofs.Rules.{all-finite}
use Rattle.outcome.specs.Refusals.{refusal}
use Rattle.dwtest.specs.Test.{test_of}
use Rattle.outcome.specs.declared.Refusal.{Refusal}
use Rattle.outcome.specs.declared.Choice.{Choice}
use Rattle.theorems.specs.Document.{Row, first_given, found, rows}
use Rattle.theorems.specs.Scan.{sized, zeros, SizeRefusals}
use Rattle.theorems.proofs.Order.{as-document}
use Rattle.theorems.proofs.Seen.{two-at-least}
use Rattle.theorems.proofs.Scales.{lo, hi, square_room, Times, Pair, none_alike, zero_is, is_finite, residual-square, sum-times, zero-alone, sums-times, size_of, number_of}

-- ---- a rounding, a sum and a square are 0 only where nothing else is there
round-zero : (W : ℕ) → W < 2 ^ 2097 → eq (round binary64 false W (2 ^ 1074)) plus_zero ≡ eqb W 0
round-zero W h =
    let r = round_whole false W h in
    zero_is (round binary64 false W (2 ^ 1074)) false r.0 r.1 ∙ none_alike r.0 W (λ z. close-zero (lit≤ tt) (close-sym r.2) z) (λ z. close-zero (lit≤ tt) r.2 z)

start-zero : (x : Float) (A : ℕ) → Valued x false A → A < 2 ^ 2097 → eq (minus_zero ⊕ x) plus_zero ≡ eq x plus_zero
start-zero x A v h = ap (λ (z : Float). eq z plus_zero) (start_is x A v) ∙ round-zero A h ∙ sym (zero_is x false A v)

plus-zero : (x y : Float) (A B : ℕ) → Valued x false A → Valued y false B → A + B < 2 ^ 2097 → eq (x ⊕ y) plus_zero ≡ eq x plus_zero && eq y plus_zero
plus-zero x y A B v w h = ap (λ (z : Float). eq z plus_zero) (plus-is x y A B v w) ∙ round-zero (A + B) h ∙ rw (zero_is x false A v, zero_is y false B w) (both A B)
  where
    both : (A B : ℕ) → eqb (A + B) 0 ≡ eqb A 0 && eqb B 0
    both zero B = none_alike (0 + B) B (λ z. omega (arith, z)) (λ z. omega (arith, z))
    both (suc A) B = rw (eqb-suc-zero A) (ne_eqb (suc A + B) 0 (λ z. omega (arith, z)))

sum-zero : (b : ℕ) → b ≤ 2000 → (f : ℕ → Float) (n : ℕ) → ((t : ℕ) → t < n → Times 0 b false false (f t) (f t)) → eq (sum_of n f) plus_zero ≡ all? n (λ t. eq (f t) plus_zero)
unfolding sum_of all?
sum-zero b B f zero each = unfold eq neg of_bits in refl
sum-zero b B f (suc zero) each = let a = each 0 (le_refl 1) in start-zero (f 0) a.units a.val (lt_of_le_of_lt (le_trans (le_of_eq (sym (mul-one a.units))) (le_trans a.up_to (pow_mono B))) (lit< tt))
sum-zero b B f (suc (suc n)) each =
    let before : (t : ℕ) → t < suc n → Times 0 b false false (f t) (f t) = λ (t : ℕ) (l : t < suc n). each t (le_step l) in
    let c = sum-times 0 b (omega arith) f f n before in
    let a = each (suc n) (le_refl (suc (suc n))) in
    plus-zero (sum_of (suc n) f) (f (suc n)) c.units a.units c.val a.val (short c.units a.units c.up_to a.up_to) ∙ ap (λ (z : Bool). z && eq (f (suc n)) plus_zero) (sum-zero b B f (suc n) before)
  where
    short : (A C : ℕ) → A * 1 ≤ 2 ^ (b + 54) → C * 1 ≤ 2 ^ b → A + C < 2 ^ 2097
    short A C p q = lt_of_le_of_lt (add-le-add (le_trans (le_of_eq (sym (mul-one A))) (le_trans p (pow_mono {i = b + 54} {j = 2054} (omega arith)))) (le_trans (le_of_eq (sym (mul-one C))) (le_trans q (pow_mono B)))) (lit< tt)

square-zero : {x : Float} (u : Number x) → Among lo hi u.units → eq (square_of x) plus_zero ≡ eq x plus_zero
square-zero {x} u r =
    let A = u.units in
    let n = round-fine false (A * A) (2 ^ 1074 * 2 ^ 1074) (mul-pos (pow_pos 1074) (pow_pos 1074)) (fine A r.from) (short A r.up_to) in
    ap (λ (z : Float). eq z plus_zero) (square-is x u.sign A u.val) ∙ zero_is (round binary64 false (A * A) (2 ^ 1074 * 2 ^ 1074)) false n.0 n.1
    ∙ alike n.0 A n.2 ∙ sym (zero_is x u.sign A u.val)
  where
    fine : (A : ℕ) → (A ≡ 0) ⊎ (lo ≤ A) → (A * A ≡ 0) ⊎ (2 ^ 52 * (2 ^ 1074 * 2 ^ 1074) ≤ A * A * 2 ^ 1074)
    fine A (inl z) = inl (ap (λ (i : ℕ). i * i) z)
    fine A (inr l) = inr (le_trans (lit≤ tt) (mul-le-mul_right (2 ^ 1074) (mul-le-mul l l)))

    short : (A : ℕ) → A ≤ hi → A * A * 2 ^ 1074 < 2 ^ 2097 * (2 ^ 1074 * 2 ^ 1074)
    short A l = lt_of_le_of_lt (mul-le-mul_right (2 ^ 1074) (mul-le-mul l l)) (lit< tt)

    alike : (g A : ℕ) → Close 1 (g * (2 ^ 1074 * 2 ^ 1074)) (A * A * 2 ^ 1074) → eqb g 0 ≡ eqb A 0
    alike g A c = none_alike g A (λ z. root (eq-zero-or-pos A) (close-zero (lit≤ tt) (close-sym c) (ap (λ (i : ℕ). i * (2 ^ 1074 * 2 ^ 1074)) z)))
        (λ z. eq_of_mul-eq-mul_right (2 ^ 1074 * 2 ^ 1074) (mul-pos (pow_pos 1074) (pow_pos 1074)) g 0 (close-zero (lit≤ tt) c (ap (λ (i : ℕ). i * i * 2 ^ 1074) z)))
      where
        root : (A ≡ 0) ⊎ (0 < A) → A * A * 2 ^ 1074 ≡ 0 → A ≡ 0
        root (inl z) h = z
        root (inr p) h = absurd (lt_irrefl 0 (subst (λ (i : ℕ). 0 < i) h (mul-pos (mul-pos p p) (pow_pos 1074))))

-- ---- the two sums of a run
all_same : (n : ℕ) (f g : ℕ → Bool) → ((t : ℕ) → t < n → f t ≡ g t) → all? n f ≡ all? n g
unfolding all?
all_same zero f g h = refl
all_same (suc n) f g h = rw (all_same n f g (λ t l. h t (le_step l)), h n (le_refl (suc n))) refl

-- what rows 8 and 9 ask
sums : (e : List Float) → T (held? e) → T (sized e) → 2 ≤ length e → first_bad e ≡ None → (eq (squares e) plus_zero ≡ zeros e) × (finite (squares e) && finite (differences e) ≡ true)
sums e held size many none =
    let q = sums-times e e (length e) many own in (
      sum-zero (square_room + 54) (lit≤ tt) (λ t. square_of (e ‼ t)) (length e) (λ (t : ℕ) (l : t < length e). residual-square (own t l))
          ∙ all_same (length e) (λ t. eq (square_of (e ‼ t)) plus_zero) (λ t. eq (e ‼ t) plus_zero || not (finite (e ‼ t)))
          (λ t l. square-zero (own t l).small (own t l).from ∙ sym (zero-alone (e ‼ t) (all-finite e none t l))),
      rw (is_finite (squares e) false q.0.units q.0.val, is_finite (differences e) false q.1.units q.1.val) refl,
    )
  where
    -- each residual beside itself
    own : (t : ℕ) → t < length e → Pair 0 (e ‼ t) (e ‼ t)
    own t l =
        let u = number_of e held t l (all-finite e none t l) in
        record { small = u; large = u; signs = refl; sizes = sym (mul-one u.units); from = size_of e size t l u; to = size_of e size t l u }

-- ---- document 01's table

-- a refusal, if any, is not of 1 to 7
abbrev Past : Refusal → Type 0
Past g = (g.number ≡ 0) ⊎ (7 < g.number)

-- rows that give 1 to 7; rows none of which gives i; rows none of which holds
unfoldable early : List Row → Bool
early [] = true
early (r ∷ rs) = leb 1 r.gives.number && leb r.gives.number 7 && early rs

unfoldable without : ℕ → List Row → Bool
without i [] = not (eqb 0 i)
without i (r ∷ rs) = not (eqb r.gives.number i) && without i rs

unfoldable quiet : List Row → Bool
quiet [] = true
quiet (r ∷ rs) = not r.when && quiet rs

past-rows : (rs rest : List Row) → T (early rs) → Past (first_given (rs ++ rest)) → (quiet rs ≡ true) × (first_given (rs ++ rest) ≡ first_given rest)
unfolding first_given early quiet
past-rows [] rest h p = (refl, refl)
past-rows (r ∷ rs) rest h p =
    let i = r.gives.number in
    go r.when (leb→le 1 i (and_l (leb 1 i) (leb i 7) (and_l (leb 1 i && leb i 7) (early rs) h))) (leb→le i 7 (and_r (leb 1 i) (leb i 7) (and_l (leb 1 i && leb i 7) (early rs) h)))
    (past-rows rs rest (and_r (leb 1 i && leb i 7) (early rs) h)) p
  where
    go : (b : Bool) → 1 ≤ r.gives.number → r.gives.number ≤ 7 → (Past (first_given (rs ++ rest)) → (quiet rs ≡ true) × (first_given (rs ++ rest) ≡ first_given rest))
        → Past (cond b r.gives (first_given (rs ++ rest))) → (not b && quiet rs ≡ true) × (cond b r.gives (first_given (rs ++ rest)) ≡ first_given rest)
    go true f g later (inl z) = absurd (omega (arith, f, z))
    go true f g later (inr l) = absurd (omega (arith, g, l))
    go false f g later p = later p

not-given : (i : ℕ) (rs : List Row) → T (without i rs) → eqb (first_given rs).number i ≡ false
unfolding first_given without
not-given i [] h = is_false (eqb 0 i) h
not-given i (r ∷ rs) h = go r.when (and_l (not (eqb r.gives.number i)) (without i rs) h) (not-given i rs (and_r (not (eqb r.gives.number i)) (without i rs) h))
  where
    go : (b : Bool) → T (not (eqb r.gives.number i)) → eqb (first_given rs).number i ≡ false → eqb (cond b r.gives (first_given rs)).number i ≡ false
    go true f g = is_false (eqb r.gives.number i) f
    go false f g = g

three : (a b c : Bool) → not a && (not b && (not c && true)) ≡ true → (a ≡ false) × (b ≡ false) × (c ≡ false)
three true b c h = absurd (true≢false (sym h))
three false true c h = absurd (true≢false (sym h))
three false false true h = absurd (true≢false (sym h))
three false false false h = (refl, refl, refl)

not_found : (f : Option ℕ) → found f ≡ false → f ≡ None
not_found (Some t) h = absurd (true≢false h)
not_found None h = refl

-- five rows are of the columns, three of how many residuals there are and whether they are finite, and then come rows 8 and 9
module _ (e x : List Float) (k : ℕ) (c : Choice) (m p : ℕ) where
  abbrev table : List Row
  table = rows e x k c m p

  past-seven : Past (first_given table) → (2 ≤ length e) × (first_bad e ≡ None) × (first_given table ≡ first_given (drop 8 table))
  unfolding early quiet
  past-seven past =
      let columns = past-rows (take 5 table) (drop 5 table) tt past in
      let residuals = past-rows (take 3 (drop 5 table)) (drop 8 table) tt (subst Past columns.1 past) in
      let off = three (eqb (length e) 0) (eqb (length e) 1) (found (first_bad e)) residuals.0 in
      (two-at-least (length e) (eqb-false (length e) 0 off.0) (eqb-false (length e) 1 off.1), not_found (first_bad e) off.2, columns.1 ∙ residuals.1)

  size-rows : eq (squares e) plus_zero ≡ zeros e → finite (squares e) && finite (differences e) ≡ true
      → (eqb (first_given (drop 8 table)).number 8 ≡ zeros e) × (eqb (first_given (drop 8 table)).number 9 ≡ false)
  unfolding first_given without
  size-rows z f = rw (z, f) (go (zeros e) (first_given (drop 10 table)) (not-given 8 (drop 10 table) tt) (not-given 9 (drop 10 table) tt))
    where
      go : (b : Bool) (g : Refusal) → eqb g.number 8 ≡ false → eqb g.number 9 ≡ false → (eqb (cond b (refusal 8 0) g).number 8 ≡ b) × (eqb (cond b (refusal 8 0) g).number 9 ≡ false)
      go true g p q = (refl, refl)
      go false g p q = (p, q)

-- THE REFUSALS OF SIZE
pub size-refusals : SizeRefusals
size-refusals e x k a c m p held size past =
    let given : (test_of e x k a c m p).refusal ≡ first_given (rows e x k c m p) = as-document e x k a c m p in
    let q = past-seven e x k c m p (subst Past given past) in
    let s = sums e held size q.0 q.1 in
    rw (given ∙ q.2) (size-rows e x k c m p s.0 s.1)
