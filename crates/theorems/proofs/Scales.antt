-- Two runs of residuals, one 2^k times the other, each 0 or of demand 3's sizes: their sums of squares and of squared differences are 2^(2k) times one another, since no rounding
-- sees the scale. Residuals of 53 digits that are 2^-250 at least are whole numbers of 2^-302, so their differences are 0 or 2^-302 at least, and all squares are normal; a sum
-- of whole numbers of units of 2^-1074 is rounded alike at every scale; and nothing comes near overflow, however many residuals there are (autocorrelation's Powers). Assumes nothing.
use mathlib.Core.Path.{◌≡◌, refl, sym, ap, ◌∙◌, subst}
use mathlib.Core.Logic.{◌⊎◌, inl, inr}
use Prim.Native.Nat.{ℕ, zero, suc, ◌+◌, ◌-◌, ◌*◌, ◌^◌, ◌≤◌, ◌<◌}
use native.Mathlib.Nat.{le_refl, le_trans, le_of_eq, le_step, le_of_suc-le-suc, not-suc-le-zero, le-add_right, lt_of_le_of_lt, lt_of_lt_of_le, not-le_of_lt, eq-zero-or-pos, zero-mul, mul-one, mul_comm, mul_assoc, mul_right_comm, mul-mul-mul_comm, add-mul, mul-sub, mul-pos, mul-le-mul, mul-le-mul_right, le-mul_of_pos_right, le_of_mul-le-mul_right, eq_of_mul-eq-mul_right, sub-add_cancel, add-le-add}
use native.Mathlib.Omega.{arith}
use mathlib.Core.Bool.{Bool, true, false, not, ◌&&◌, ◌||◌, cond, beq}
use mathlib.Core.List.{List}
use borrow.Author.Tests.{eq-eqb, ne_eqb}
use lib.Dec.{T, leb, eqb, leb→le, nleb→lt, lit≤, lit<}
use lib.Pow.{pow-add, pow_pos, pow_mono, shl_lt}
use lib.IntN.{nat_abs, ◌-ℤ◌}
use lib.ListN.{length}
use lib.Ieee.{Float, nan, inf, fin, binary64, up, down, round, eq, of_bits, fits}
use lib.Ieee.Bits.{is_true}
use lib.Ieee.Exact.{round_exact}
use lib.Ieee.Fits.{down_pos}
use lib.Ieee.Scale.{grid, grid_scale, normal_of_fraction, round_same, finite}
use Rattle.floats.specs.Words.{◌⊕◌, ◌⊖◌, ◌‼◌, plus_zero, minus_zero, square_of}
use Rattle.floats.specs.Sums.{sum_of}
use Rattle.floats.specs.Held.{held?}
use Rattle.floats.proofs.HeldLaws.{all-at}
use Rattle.autocorrelation.specs.Bound.{exact, sized?}
use Rattle.autocorrelation.proofs.Close.{Close, close-zero, close-half}
use Rattle.autocorrelation.proofs.Rounding.{Valued, round-units, round_whole}
use Rattle.autocorrelation.proofs.Units.{plus-is, start_is, square-is, size_is, valued-finite, Number, number, number_size, apart-is, difference-is}
use Rattle.autocorrelation.proofs.SumLaws.{Among, SD, SS}
use Rattle.autocorrelation.proofs.Rules.{among, most}
use Rattle.autocorrelation.proofs.Powers.{at_most}
use Rattle.theorems.specs.Scan.{size_limit, power_limit, sized}

-- ---- the sizes, in units of 2^-1074: from lo to hi; numbers are multiples of `digit`, and what one rounding makes of their differences is `half` at least, or 0
abbrev pub lo : ℕ
lo = 2 ^ (1074 - size_limit)

abbrev pub hi : ℕ
hi = 2 ^ (1074 + size_limit)

abbrev digit : ℕ
digit = 2 ^ (1074 - size_limit - 52)

abbrev half : ℕ
half = 2 ^ (1074 - size_limit - 53)

-- 54 below the power of two that bounds a rounded difference, and below the one that bounds a rounded square of it: so far a rounding of one term more keeps the bound (Powers)
abbrev difference_room : ℕ
difference_room = 1021 + size_limit

abbrev pub square_room : ℕ
square_room = 1022 + 2 * size_limit

-- their squares are normal
squares-normal : 2 ^ 52 * 2 ^ 1074 ≤ half * half
squares-normal = lit≤ tt

-- a number of lo units or more, of 53 digits, is a multiple of 2^powerLimit, and hi units times 2^powerLimit are far from overflow
pub powers-divide : power_limit ≤ 1074 - size_limit - 52
powers-divide = lit≤ tt

pub powers-fit : hi * 2 ^ power_limit < 2 ^ 2098
powers-fit = lit< tt

-- a number has one size
unique : (x : Float) (s t : Bool) (g h : ℕ) → Valued x s g → Valued x t h → g ≡ h
unique x s t g h u v = sym (size_is x s g u) ∙ size_is x t h v

-- ---- one rounding, at two scales

-- x has the sign s and x' the sign s'; x' has 2^k times the size of x, and at most 2^b units
pub record Times (k b : ℕ) (s s' : Bool) (x x' : Float) : Type 0 where
  pub units : ℕ
  pub val : Valued x s units
  pub val' : Valued x' s' (units * 2 ^ k)
  pub up_to : units * 2 ^ k ≤ 2 ^ b

-- a / c is normal, or a whole number of units, of 53 digits
abbrev Fine : ℕ → ℕ → Type 0
Fine a c = (2 ^ 52 * c ≤ a * 2 ^ 1074) ⊎ ((w : ℕ) × (w < 2 ^ 53) × (a * 2 ^ 1074 ≡ w * c))

module _ (s s' : Bool) (a c k b : ℕ) (C : 0 < c) (B : b ≤ 2043) (room : a * 2 ^ k * 2 ^ 1074 ≤ (2 ^ (b + 54) + 2 ^ b) * c) where
  under : grid binary64 (a * 2 ^ k) c ≤ 2 ^ (b + 54)
  under = at_most (a * 2 ^ k * 2 ^ 1074) c C b room

  below : {g : ℕ} → g ≤ 2 ^ (b + 54) → g < 2 ^ 2098
  below h = lt_of_le_of_lt h (lt_of_le_of_lt (pow_mono {i = b + 54} {j = 2097} (omega arith)) (lit< tt))

  round-times : Fine a c → Times k (b + 54) s s' (round binary64 s a c) (round binary64 s' (a * 2 ^ k) c)
  round-times (inl h) =
      let e : grid binary64 (a * 2 ^ k) c ≡ grid binary64 a c * 2 ^ k = grid_scale binary64 a c k C (normal_of_fraction binary64 a c C h) in
      let l : grid binary64 a c * 2 ^ k ≤ 2 ^ (b + 54) = le_trans (le_of_eq (sym e)) under in
      record {
        units = grid binary64 a c;
        val = round-units s a c (below (le_trans (le-mul_of_pos_right (grid binary64 a c) (pow_pos k)) l));
        val' = subst (Valued (round binary64 s' (a * 2 ^ k) c) s') e (round-units s' (a * 2 ^ k) c (below under));
        up_to = l;
      }
  round-times (inr (w, W, h)) =
      let m : a * 2 ^ k * 2 ^ 1074 ≡ w * 2 ^ k * c = mul_right_comm a (2 ^ k) (2 ^ 1074) ∙ ap (λ (z : ℕ). z * 2 ^ k) h ∙ mul_right_comm w c (2 ^ k) in
      let l : w * 2 ^ k ≤ 2 ^ (b + 54) + 2 ^ b = le_of_mul-le-mul_right (le_trans (le_of_eq (sym m)) room) C in
      let v : Valued (round binary64 s' (a * 2 ^ k) c) s' (w * 2 ^ k) =
      rw (round_same binary64 s' (a * 2 ^ k) c (w * 2 ^ k) (2 ^ 1074) C (pow_pos 1074) m) (round_exact binary64 s' (w * 2 ^ k) (2 ^ 1074) w k (pow_pos 1074) W (lt_of_le_of_lt l (short b B)) refl) in
      record {
        units = w;
        val = rw (round_same binary64 s a c w (2 ^ 1074) C (pow_pos 1074) h) (round_exact binary64 s w (2 ^ 1074) w 0 (pow_pos 1074) W (lt_of_le_of_lt (le_of_eq (mul-one w)) (lt_of_lt_of_le W (lit≤ tt))) (ap (λ (z : ℕ). z * 2 ^ 1074) (sym (mul-one w))));
        val' = v;
        up_to = le_trans (le_of_eq (unique (round binary64 s' (a * 2 ^ k) c) s' s' (w * 2 ^ k) (grid binary64 (a * 2 ^ k) c) v (round-units s' (a * 2 ^ k) c (below under)))) under;
      }
    where
      short : (b : ℕ) → b ≤ 2043 → 2 ^ (b + 54) + 2 ^ b < 2 ^ 2098
      short b h = lt_of_le_of_lt (add-le-add (pow_mono {i = b + 54} {j = 2097} (omega arith)) (pow_mono h)) (lit< tt)

-- a whole number of units
whole-times : (s s' : Bool) (W k b : ℕ) → b ≤ 2043 → W * 2 ^ k ≤ 2 ^ (b + 54) + 2 ^ b → Times k (b + 54) s s' (round binary64 s W (2 ^ 1074)) (round binary64 s' (W * 2 ^ k) (2 ^ 1074))
whole-times s s' W k b B h = round-times s s' W (2 ^ 1074) k b (pow_pos 1074) B (mul-le-mul_right (2 ^ 1074) h) (go (leb (2 ^ 52) W) (leb→le (2 ^ 52) W) (nleb→lt (2 ^ 52) W))
  where
    go : (t : Bool) → (T t → 2 ^ 52 ≤ W) → (T (not t) → W < 2 ^ 52) → Fine W (2 ^ 1074)
    go true l g = inl (mul-le-mul_right (2 ^ 1074) (l tt))
    go false l g = inr (W, lt_of_lt_of_le (g tt) (lit≤ tt), refl)

-- ---- a sum of terms that are not negative
module _ (k b : ℕ) (B : b ≤ 2043) where
  first-times : {x x' : Float} → Times k b false false x x' → Times k (b + 54) false false (minus_zero ⊕ x) (minus_zero ⊕ x')
  first-times {x} {x'} a =
      rw (start_is x a.units a.val, start_is x' (a.units * 2 ^ k) a.val')
      (whole-times false false a.units k b B (le_trans a.up_to (more (2 ^ b) (2 ^ (b + 54)))))
    where
      more : (m n : ℕ) → m ≤ n + m
      more m n = omega arith

  next-times : {z z' x x' : Float} → Times k (b + 54) false false z z' → Times k b false false x x' → Times k (b + 54) false false (z ⊕ x) (z' ⊕ x')
  next-times {z} {z'} {x} {x'} c a =
      rw (plus-is z x c.units a.units c.val a.val, plus-is z' x' (c.units * 2 ^ k) (a.units * 2 ^ k) c.val' a.val', ← add-mul c.units a.units (2 ^ k))
      (whole-times false false (c.units + a.units) k b B (le_trans (le_of_eq (add-mul c.units a.units (2 ^ k))) (add-le-add c.up_to a.up_to)))

  -- THE SUM: scaled terms have a scaled sum
  pub sum-times : (f f' : ℕ → Float) (n : ℕ) → ((t : ℕ) → t < suc n → Times k b false false (f t) (f' t)) → Times k (b + 54) false false (sum_of (suc n) f) (sum_of (suc n) f')
  unfolding sum_of
  sum-times f f' zero each = first-times (each 0 (le_refl 1))
  sum-times f f' (suc n) each = next-times (sum-times f f' n (λ (t : ℕ) (l : t < suc n). each t (le_step l))) (each (suc n) (le_refl (suc (suc n))))

-- ---- a square
square-times : {k c : ℕ} {s s' : Bool} {x x' : Float} (b : ℕ) → b ≤ 2043 → 2 ^ c * 2 ^ c ≤ 2 ^ (b + 54) * 2 ^ 1074 → (a : Times k c s s' x x') → (a.units ≡ 0) ⊎ (half ≤ a.units)
    → Times (k + k) (b + 54) false false (square_of x) (square_of x')
square-times {k} {c} {s} {s'} {x} {x'} b B h a f =
    rw (square-is x s a.units a.val, square-is x' s' (a.units * 2 ^ k) a.val', twice)
    (round-times false false (a.units * a.units) (2 ^ 1074 * 2 ^ 1074) (k + k) b (mul-pos (pow_pos 1074) (pow_pos 1074)) B room (fine f))
  where
    twice : a.units * 2 ^ k * (a.units * 2 ^ k) ≡ a.units * a.units * 2 ^ (k + k)
    twice = mul-mul-mul_comm a.units (2 ^ k) a.units (2 ^ k) ∙ ap (λ (z : ℕ). a.units * a.units * z) (sym (pow-add 2 k k))

    room : a.units * a.units * 2 ^ (k + k) * 2 ^ 1074 ≤ (2 ^ (b + 54) + 2 ^ b) * (2 ^ 1074 * 2 ^ 1074)
    room =
        le_trans (mul-le-mul_right (2 ^ 1074) (le_trans (le_of_eq (sym twice)) (le_trans (mul-le-mul a.up_to a.up_to) h)))
        (le_trans (le_of_eq (mul_assoc (2 ^ (b + 54)) (2 ^ 1074) (2 ^ 1074))) (mul-le-mul_right (2 ^ 1074 * 2 ^ 1074) (le-add_right (2 ^ (b + 54)) (2 ^ b))))

    fine : (a.units ≡ 0) ⊎ (half ≤ a.units) → Fine (a.units * a.units) (2 ^ 1074 * 2 ^ 1074)
    fine (inl z) = inr (0, lit< tt, ap (λ (u : ℕ). u * u * 2 ^ 1074) z)
    fine (inr l) = inl (le_trans (le_of_eq (sym (mul_assoc (2 ^ 52) (2 ^ 1074) (2 ^ 1074)))) (mul-le-mul_right (2 ^ 1074) (le_trans squares-normal (mul-le-mul l l))))

-- ---- two residuals, the second 2^k times the first, both 0 or from lo to hi units in size
pub record Pair (k : ℕ) (x x' : Float) : Type 0 where
  pub small : Number x
  pub large : Number x'
  pub signs : large.sign ≡ small.sign
  pub sizes : large.units ≡ small.units * 2 ^ k
  pub from : Among lo hi small.units
  pub to : Among lo hi large.units

pair-times : {k : ℕ} {x x' : Float} (p : Pair k x x') → Times k (1074 + size_limit) p.small.sign p.large.sign x x'
pair-times {k} {x} {x'} p = record {
  units = p.small.units;
  val = p.small.val;
  val' = subst (Valued x' p.large.sign) p.sizes p.large.val;
  up_to = le_trans (le_of_eq (sym p.sizes)) p.to.up_to;
}

-- their squares
pub residual-square : {k : ℕ} {x x' : Float} → Pair k x x' → Times (k + k) (square_room + 54) false false (square_of x) (square_of x')
unfolding pair-times
residual-square p = square-times square_room (lit≤ tt) (lit≤ tt) (pair-times p) (wide p.small.units p.from.from)
  where
    wide : (u : ℕ) → (u ≡ 0) ⊎ (lo ≤ u) → (u ≡ 0) ⊎ (half ≤ u)
    wide u (inl z) = inl z
    wide u (inr l) = inr (le_trans (lit≤ tt) l)

-- m of 53 digits, followed by j zeros
pub zeros-behind : (m j : ℕ) → m < 2 ^ 53 → lo ≤ m * 2 ^ j → 1074 - size_limit - 52 ≤ j
zeros-behind m j M h = let g : ¬ (53 + j ≤ 1074 - size_limit) = λ (g : 53 + j ≤ 1074 - size_limit). not-le_of_lt (shl_lt 53 j M) (le_trans (pow_mono g) h) in omega arith

multiple : {x : Float} (u : Number x) → Among lo hi u.units → (q : ℕ) × (u.units ≡ q * digit)
multiple u r = rw u.is (go u.m u.j u.few (subst (λ (a : ℕ). (a ≡ 0) ⊎ (lo ≤ a)) u.is r.from))
  where
    go : (m j : ℕ) → m < 2 ^ 53 → (m * 2 ^ j ≡ 0) ⊎ (lo ≤ m * 2 ^ j) → (q : ℕ) × (m * 2 ^ j ≡ q * digit)
    go m j f (inl z) = (0, z)
    go m j f (inr h) =
        let i = 1074 - size_limit - 52 in
        (m * 2 ^ (j - i), ap (λ (z : ℕ). m * 2 ^ z) (sym (sub-add_cancel (zeros-behind m j f h))) ∙ ap (λ (z : ℕ). m * z) (pow-add 2 (j - i) i) ∙ sym (mul_assoc m (2 ^ (j - i)) (2 ^ i)))

-- the size of a difference, by whether the signs are the same
abbrev apart : Bool → ℕ → ℕ → ℕ
apart b A B = cond b (A - B + (B - A)) (A + B)

apart-times : (b : Bool) (A B P : ℕ) → apart b (A * P) (B * P) ≡ apart b A B * P
apart-times true A B P = omega (arith, mul_comm (A - B) P, mul-sub P A B, mul_comm (B - A) P, mul-sub P B A, mul_comm P A, mul_comm P B)
apart-times false A B P = sym (add-mul A B P)

-- of two multiples of d
apart_from : (b : Bool) (A B q r d : ℕ) → A ≡ q * d → B ≡ r * d → (apart b A B ≡ 0) ⊎ (d ≤ apart b A B)
apart_from b A B q r d f g = rw (f, g, apart-times b q r d) (go (apart b q r))
  where
    go : (n : ℕ) → (n * d ≡ 0) ⊎ (d ≤ n * d)
    go zero = inl (zero-mul d)
    go (suc n) = inr (omega arith)

-- the difference of two residuals, and its square
module _ {k : ℕ} {x x' y y' : Float} (p : Pair k x x') (q : Pair k y y') where
  abbrev W : ℕ
  W = nat_abs (exact y -ℤ exact x)

  W-scaled : nat_abs (exact y' -ℤ exact x') ≡ W * 2 ^ k
  W-scaled =
      apart-is p.large q.large ∙ rw (p.signs, q.signs, p.sizes, q.sizes) (apart-times (beq q.small.sign p.small.sign) q.small.units p.small.units (2 ^ k))
      ∙ ap (λ (z : ℕ). z * 2 ^ k) (sym (apart-is p.small q.small))

  W-from : (W ≡ 0) ⊎ (digit ≤ W)
  W-from =
      let a = multiple q.small q.from in
      let b = multiple p.small p.from in
      subst (λ (z : ℕ). (z ≡ 0) ⊎ (digit ≤ z)) (sym (apart-is p.small q.small))
      (apart_from (beq q.small.sign p.small.sign) q.small.units p.small.units a.0 b.0 digit a.1 b.1)

  W-to : W * 2 ^ k ≤ hi * 2
  W-to = le_trans (le_of_eq (sym W-scaled)) (le_trans (le_of_eq (apart-is p.large q.large)) (most (beq q.large.sign p.large.sign) q.large.units p.large.units hi q.to.up_to p.to.up_to))

  difference-square : Times (k + k) (square_room + 54) false false (square_of (y ⊖ x)) (square_of (y' ⊖ x'))
  difference-square =
      let d = difference-is p.small q.small in
      let d' = difference-is p.large q.large in
      let r = whole-times d.0 d'.0 W k difference_room (lit≤ tt) (le_trans W-to (lit≤ tt)) in
      let t : Times k (difference_room + 54) d.0 d'.0 (y ⊖ x) (y' ⊖ x') = rw (d.1, d'.1, W-scaled) r in
      let v : Valued (round binary64 d.0 W (2 ^ 1074)) d.0 t.units = rw d.1 at t.val in
      square-times square_room (lit≤ tt) (lit≤ tt) t (kept d.0 t.units v W-from)
    where
      short : W < 2 ^ 2097
      short = lt_of_le_of_lt (le-mul_of_pos_right W (pow_pos k)) (lt_of_le_of_lt W-to (lit< tt))

      kept : (s : Bool) (u : ℕ) → Valued (round binary64 s W (2 ^ 1074)) s u → (W ≡ 0) ⊎ (digit ≤ W) → (u ≡ 0) ⊎ (half ≤ u)
      kept s u v w = let r = round_whole s W short in subst (λ (g : ℕ). (g ≡ 0) ⊎ (half ≤ g)) (unique (round binary64 s W (2 ^ 1074)) s s r.0 u r.1 v) (by r.0 r.2 w)
        where
          by : (g : ℕ) → Close 1 g W → (W ≡ 0) ⊎ (digit ≤ W) → (g ≡ 0) ⊎ (half ≤ g)
          by g c (inl z) = inl (close-zero (lit≤ tt) c z)
          by g c (inr l) = inr (close-half half (lit≤ tt) c (le_trans (lit≤ tt) l))

-- ---- a number is 0 where it has no units
pub none_alike : (a b : ℕ) → (a ≡ 0 → b ≡ 0) → (b ≡ 0 → a ≡ 0) → eqb a 0 ≡ eqb b 0
none_alike a b f g = go (eq-zero-or-pos a)
  where
    go : (a ≡ 0) ⊎ (0 < a) → eqb a 0 ≡ eqb b 0
    go (inl z) = eq-eqb a 0 z ∙ sym (eq-eqb b 0 (f z))
    go (inr p) = ne_eqb a 0 (λ z. omega (arith, z, p)) ∙ sym (ne_eqb b 0 (λ z. omega (arith, g z, p)))

pub zero_is : (x : Float) (s : Bool) (g : ℕ) → Valued x s g → eq x plus_zero ≡ eqb g 0
unfolding eq of_bits
zero_is nan s g v = absurd v
zero_is (inf r) s g v = absurd v
zero_is (fin r m e) s g v = rw (zero-mul (down e), same (m * up e) (2 ^ 1074) (pow_pos 1074) v.1) (go (eqb g 0) r)
  where
    same : (n L : ℕ) → 0 < L → n * L ≡ g * down e → eqb (n * 1) 0 ≡ eqb g 0
    same n L P h = none_alike (n * 1) g (λ z. eq_of_mul-eq-mul_right (down e) (down_pos e) g 0 (sym h ∙ ap (λ (i : ℕ). i * L) (sym (mul-one n) ∙ z) ∙ zero-mul L ∙ sym (zero-mul (down e)))) (λ z. mul-one n ∙ eq_of_mul-eq-mul_right L P n 0 (h ∙ ap (λ (i : ℕ). i * down e) z ∙ zero-mul (down e) ∙ sym (zero-mul L)))

    go : (b r : Bool) → b && (beq r false || b) ≡ b
    go true true = refl
    go true false = refl
    go false r = refl

pub is_finite : (x : Float) (s : Bool) (g : ℕ) → Valued x s g → finite x ≡ true
is_finite x s g v = is_true (finite x) (valued-finite x s g v)

-- of a finite residual the test of `zeros` asks only whether it is 0
pub zero-alone : (x : Float) → T (finite x) → eq x plus_zero || not (finite x) ≡ eq x plus_zero
zero-alone x f = ap (λ (b : Bool). eq x plus_zero || not b) (is_true (finite x) f) ∙ go (eq x plus_zero)
  where
    go : (a : Bool) → a || false ≡ a
    go true = refl
    go false = refl

-- ---- both sums, of n residuals
pub sums-times : {k : ℕ} (e e' : List Float) (n : ℕ) → 2 ≤ n → ((t : ℕ) → t < n → Pair k (e ‼ t) (e' ‼ t))
    → Times (k + k) (square_room + 54 + 54) false false (SS e n) (SS e' n) × Times (k + k) (square_room + 54 + 54) false false (SD e (n - 1)) (SD e' (n - 1))
sums-times e e' zero a pairs = absurd (not-suc-le-zero a)
sums-times e e' (suc zero) a pairs = absurd (not-suc-le-zero (le_of_suc-le-suc a))
sums-times {k} e e' (suc (suc m)) a pairs =
    let c : suc (suc m) - 1 ≡ suc m = omega arith in (
      sum-times (k + k) (square_room + 54) (lit≤ tt) (λ t. square_of (e ‼ t)) (λ t. square_of (e' ‼ t)) (suc m) (λ (t : ℕ) (l : t < suc (suc m)). residual-square (pairs t l)),
      rw c
          (sum-times (k + k) (square_room + 54) (lit≤ tt) (λ t. square_of (e ‼ (t + 1) ⊖ e ‼ t)) (λ t. square_of (e' ‼ (t + 1) ⊖ e' ‼ t)) m
          (λ (t : ℕ) (l : t < suc m). difference-square (pairs t (omega arith)) (pairs (t + 1) (omega arith)))),
    )

-- ---- a run of residuals: their sizes, and those that are finite as numbers
pub size_of : (e : List Float) → T (sized e) → (t : ℕ) → t < length e → (u : Number (e ‼ t)) → Among lo hi u.units
size_of e h t l u = subst (Among lo hi) (number_size u) (among size_limit (exact (e ‼ t)) (all-at (length e) (λ t. sized? size_limit (exact (e ‼ t))) t h l))

pub number_of : (e : List Float) → T (held? e) → (t : ℕ) → t < length e → T (finite (e ‼ t)) → Number (e ‼ t)
number_of e held t l f = number (e ‼ t) f (all-at (length e) (λ t. fits binary64 (e ‼ t)) t held l)
