-- The bound: within 2 n + 2 roundings of the exact quotient, so within (n + 2) / 2^52 of it. A square is 1 rounding off, a squared difference 3 (the
-- difference counts twice), n - 1 and n - 2 additions come on top, and the division is one more: 1 + (1 + (n - 1)) + (3 + (n - 2)). Assumes nothing.
use mathlib.Core.Path.{◌≡◌, sym, ap, ◌∙◌, subst}
use mathlib.Core.Logic.{◌⊎◌, inl, inr}
use Prim.Native.Nat.{ℕ, zero, suc, ◌+◌, ◌-◌, ◌*◌, ◌^◌, ◌≤◌, ◌<◌}
use native.Mathlib.Nat.{not-suc-le-zero, le_of_suc-le-suc, le_trans, le_of_eq, lt_of_le_of_lt, lt_of_lt_of_le, lt_irrefl, eq-zero-or-pos, mul_comm, mul_assoc, mul_right_comm, mul-le-mul, mul-le-mul_left, mul-le-mul_right, mul-lt-mul_of_pos_right, mul-pos, le_of_mul-le-mul_right, eq_of_mul-eq-mul_right}
use native.Mathlib.Omega.{arith}
use mathlib.Core.Bool.{Bool, false, true≢false}
use mathlib.Core.List.{List}
use lib.Dec.{lit≤}
use lib.Pow.{pow_pos}
use lib.IntN.{ℤ, pos, nat_abs, ◌-ℤ◌}
use lib.Ieee.{Float, binary64, eq}
use lib.Ieee.Fits.{mul-fits}
use Rattle.floats.specs.Words.{◌⊖◌, ◌⊗◌, ◌⊘◌, ◌‼◌, plus_zero, square_of}
use Rattle.autocorrelation.specs.Bound.{exact, exact_difference, squared, exact_sum, Near, Accurate}
use Rattle.autocorrelation.proofs.Close.{Close, close-refl, close-sym, close-trans, close-mul, close-over, close-double, close-zero, close-half, close-bound}
use Rattle.autocorrelation.proofs.Rounding.{Valued, round-fine, round_whole}
use Rattle.autocorrelation.proofs.Units.{square-is, quotient_is, Number, number_size, difference-is, plus-exact, valued-finite, none_is, abs-minus}
use Rattle.autocorrelation.proofs.SumLaws.{Term, sum-close, Among, sum-among, SD, SS, exact_sd, exact_ss}

-- 2 n + 2 roundings
near-bound : (n x X : ℕ) → n ≤ 256 → Close (2 * n + 2) x X → Near n (pos x) (pos X)
near-bound n x X h c = let b = close-bound h c in off b.0 b.1
  where
    off : x * 2 ^ 53 ≤ X * 2 ^ 53 + X * (2 * n + 4) → X * 2 ^ 53 ≤ x * 2 ^ 53 + X * (2 * n + 4) → Near n (pos x) (pos X)
    off p q = rw (abs-minus x X) (omega (arith, mul_comm X n))

-- what is asked of lo and hi, where every number and every exact difference is 0 or from lo to hi units in size: squares are normal and far from
-- overflow, and so is the quotient of a sum of up to 256 of them by another
pub record Window (lo hi : ℕ) : Type 0 where
  pub half : ℕ
  pub top : ℕ
  pub bottom : ℕ
  pub halves : half * 2 ≤ lo
  pub normal : 2 ^ 52 * 2 ^ 1074 ≤ half * half
  pub under : hi * 2 * (hi * 2) < 2 ^ 2097 * 2 ^ 1074
  pub short : hi < 2 ^ 2097
  pub total : 2 ^ 8 * (hi * hi) ≤ 2 ^ 2700
  pub above : 2 ^ 8 * (hi * hi) * 2 ≤ top * 2 ^ 1074
  pub fine : 2 ^ 52 * top * 2 ≤ lo * lo
  pub below : bottom * 2 ^ 1074 * 2 ≤ lo * lo
  pub room : 2 ^ 8 * (hi * hi) * 2 < 2 ^ 2097 * bottom
  pub some : 0 < bottom

module _ (lo hi : ℕ) (w : Window lo hi) where
  -- ---- a square

  -- g units, within k roundings of G
  square-term : (k : ℕ) (x : Float) (s : Bool) (g G : ℕ) → k ≤ 2 ^ 52 → Valued x s g → Close k g G → Among lo hi G → Term (1 + (k + k)) (x ⊗ x) (G * G)
  square-term k x s g G K v c r =
      let high : g ≤ hi * 2 = le_trans (close-double K c) (mul-le-mul_right 2 r.up_to) in
      let q = round-fine false (g * g) (2 ^ 1074 * 2 ^ 1074) (mul-pos (pow_pos 1074) (pow_pos 1074)) (fine r.from)
      (lt_of_lt_of_le (mul-lt-mul_of_pos_right (lt_of_le_of_lt (mul-le-mul high high) w.under) (pow_pos 1074)) (le_of_eq (mul_assoc (2 ^ 2097) (2 ^ 1074) (2 ^ 1074)))) in
      record {
        g = q.0;
        val = rw (square-is x s g v) q.1;
        near = close-trans (close-over (2 ^ 1074) (pow_pos 1074) (rw (mul_assoc q.0 (2 ^ 1074) (2 ^ 1074)) q.2)) (close-mul c c);
      }
    where
      fine : (G ≡ 0) ⊎ (lo ≤ G) → (g * g ≡ 0) ⊎ (2 ^ 52 * (2 ^ 1074 * 2 ^ 1074) ≤ g * g * 2 ^ 1074)
      fine (inl z) = inl (ap (λ (i : ℕ). i * i) (close-zero K c z))
      fine (inr h) =
          let low : w.half ≤ g = close-half w.half K c (le_trans w.halves h) in
          inr (le_trans (le_of_eq (sym (mul_assoc (2 ^ 52) (2 ^ 1074) (2 ^ 1074)))) (mul-le-mul_right (2 ^ 1074) (le_trans w.normal (mul-le-mul low low))))

  -- of a number, and of a difference
  number-term : {x : Float} → Number x → Among lo hi (nat_abs (exact x)) → Term 1 (x ⊗ x) (squared (exact x))
  number-term {x} u r = square-term 0 x u.sign (nat_abs (exact x)) (nat_abs (exact x)) (lit≤ tt) (rw (number_size u) u.val) close-refl r

  difference-term : {x y : Float} → Number x → Number y → Among lo hi (nat_abs (exact y -ℤ exact x)) → Term 3 (square_of (y ⊖ x)) (squared (exact y -ℤ exact x))
  difference-term {x} {y} u v r =
      let d = difference-is u v in
      let q = round_whole d.0 (nat_abs (exact y -ℤ exact x)) (lt_of_le_of_lt r.up_to w.short) in
      square-term 1 (y ⊖ x) d.0 q.0 (nat_abs (exact y -ℤ exact x)) (lit≤ tt) (rw d.1 q.1) q.2 r

  -- ---- the quotient, of sums of at most 2^8 squares
  squares-among : (n : ℕ) (z : ℕ → ℤ) → n ≤ 2 ^ 8 → ((t : ℕ) → t < n → Among lo hi (nat_abs (z t))) → Among (lo * lo) (2 ^ 8 * (hi * hi)) (exact_sum n (λ t. squared (z t)))
  squares-among n z h each =
      let s = sum-among (lo * lo) (hi * hi) (λ t. squared (z t)) n (λ (t : ℕ) (g : t < n). one (z t) (each t g)) in
      record { from = s.from; up_to = le_trans s.up_to (mul-le-mul_right (hi * hi) h) }
    where
      from : (a : ℕ) → (a ≡ 0) ⊎ (lo ≤ a) → (a * a ≡ 0) ⊎ (lo * lo ≤ a * a)
      from a (inl z) = inl (ap (λ (x : ℕ). x * x) z)
      from a (inr h) = inr (mul-le-mul h h)

      one : (z : ℤ) → Among lo hi (nat_abs z) → Among (lo * lo) (hi * hi) (squared z)
      one z r = record { from = from (nat_abs z) r.from; up_to = mul-le-mul r.up_to r.up_to }

  quotient-term : (i j : ℕ) (x y : Float) (X Y : ℕ) → i ≤ 2 ^ 52 → j ≤ 2 ^ 52 → Term i x X → Term j y Y → Among (lo * lo) (2 ^ 8 * (hi * hi)) X → Among (lo * lo) (2 ^ 8 * (hi * hi)) Y → 0 < Y
      → (g : ℕ) × Valued (x ⊘ y) false g × Close (1 + i + j) (g * Y) (X * 2 ^ 1074)
  quotient-term i j x y X Y I J p q r s P =
      let n = round-fine false p.g q.g some (fine r.from) short in (
        n.0,
        rw (quotient_is x y p.g q.g p.val q.val some) n.1,
        close-over q.g some (regroup n.0 q.g (2 ^ 1074) (close-mul (close-trans n.2 p.near) (close-sym q.near))),
      )
    where
      least : (Y ≡ 0) ⊎ (lo * lo ≤ Y) → lo * lo ≤ Y
      least (inl z) = absurd (lt_irrefl 0 (subst (λ (n : ℕ). 0 < n) z P))
      least (inr h) = h

      low : w.bottom ≤ q.g
      low = le_of_mul-le-mul_right (close-half (w.bottom * 2 ^ 1074) J q.near (le_trans w.below (least s.from))) (pow_pos 1074)

      high : q.g ≤ w.top
      high = le_of_mul-le-mul_right (le_trans (close-double J q.near) (le_trans (mul-le-mul_right 2 s.up_to) w.above)) (pow_pos 1074)

      some : 0 < q.g
      some = lt_of_lt_of_le w.some low

      fine : (X ≡ 0) ⊎ (lo * lo ≤ X) → (p.g ≡ 0) ⊎ (2 ^ 52 * q.g ≤ p.g * 2 ^ 1074)
      fine (inl z) = inl (eq_of_mul-eq-mul_right (2 ^ 1074) (pow_pos 1074) p.g 0 (close-zero I p.near z))
      fine (inr h) = inr (le_trans (mul-le-mul_left (2 ^ 52) high) (close-half (2 ^ 52 * w.top) I p.near (le_trans w.fine h)))

      short : p.g * 2 ^ 1074 < 2 ^ 2097 * q.g
      short = lt_of_le_of_lt (le_trans (close-double I p.near) (mul-le-mul_right 2 r.up_to)) (lt_of_lt_of_le w.room (mul-le-mul_left (2 ^ 2097) low))

      regroup : (g b L : ℕ) → Close (1 + i + j) (g * b * Y) (X * (b * L)) → Close (1 + i + j) (g * Y * b) (X * L * b)
      regroup g b L c = rw (mul_right_comm g Y b, mul_assoc X L b, mul_comm L b) c

  -- ---- the statistic of k + 2 numbers
  module _ (e : List Float) (k : ℕ) (K : suc (suc k) ≤ 256) (numbers : (t : ℕ) → t < suc (suc k) → Number (e ‼ t)) (sized : (t : ℕ) → t < suc (suc k) → Among lo hi (nat_abs (exact (e ‼ t))))
      (apart : (t : ℕ) → t < suc k → Among lo hi (nat_abs (exact_difference e t))) where
    SD-among : Among (lo * lo) (2 ^ 8 * (hi * hi)) (exact_sd e (suc k))
    SD-among = squares-among (suc k) (λ t. exact_difference e t) (omega arith) apart

    SS-among : Among (lo * lo) (2 ^ 8 * (hi * hi)) (exact_ss e (suc (suc k)))
    SS-among = squares-among (suc (suc k)) (λ t. exact (e ‼ t)) K sized

    SD-term : Term (3 + k) (SD e (suc k)) (exact_sd e (suc k))
    SD-term =
        sum-close 3 (λ t. square_of (e ‼ (t + 1) ⊖ e ‼ t)) (λ t. squared (exact_difference e t)) (mul-fits binary64 (e ‼ 1 ⊖ e ‼ 0) (e ‼ 1 ⊖ e ‼ 0)) k (omega arith) (le_trans SD-among.up_to w.total)
        (λ (t : ℕ) (g : t < suc k). difference-term (numbers t (omega arith)) (numbers (t + 1) (omega arith)) (apart t g))

    SS-term : Term (1 + suc k) (SS e (suc (suc k))) (exact_ss e (suc (suc k)))
    SS-term =
        sum-close 1 (λ t. square_of (e ‼ t)) (λ t. squared (exact (e ‼ t))) (mul-fits binary64 (e ‼ 0) (e ‼ 0)) (suc k) (omega arith) (le_trans SS-among.up_to w.total)
        (λ (t : ℕ) (g : t < suc (suc k)). number-term (numbers t g) (sized t g))

    -- a sum that is not 0 as computed is not 0
    some : eq (SS e (suc (suc k))) plus_zero ≡ false → (exact_ss e (suc (suc k)) ≡ 0) ⊎ (0 < exact_ss e (suc (suc k))) → 0 < exact_ss e (suc (suc k))
    some h (inl z) =
        let n : SS-term.g ≡ 0 = eq_of_mul-eq-mul_right (2 ^ 1074) (pow_pos 1074) SS-term.g 0 (close-zero (omega arith) SS-term.near z) in
        absurd (true≢false (sym (none_is (SS e (suc (suc k))) (rw n at SS-term.val)) ∙ h))
    some h (inr p) = p

    counted : eq (SS e (suc (suc k))) plus_zero ≡ false → Accurate (suc (suc k)) (SD e (suc k) ⊘ SS e (suc (suc k))) (exact_sd e (suc k)) (exact_ss e (suc (suc k)))
    counted h =
        let S = exact_ss e (suc (suc k)) in
        let D = exact_sd e (suc k) in
        let P : 0 < S = some h (eq-zero-or-pos S) in
        let q = quotient-term (3 + k) (1 + suc k) (SD e (suc k)) (SS e (suc (suc k))) D S (omega arith) (omega arith) SD-term SS-term SD-among SS-among P in
        let c : Close (2 * suc (suc k) + 2) (q.0 * S) (D * 2 ^ 1074) = subst (λ (i : ℕ). Close i (q.0 * S) (D * 2 ^ 1074)) (omega arith) q.2 in
        let d = SD e (suc k) ⊘ SS e (suc (suc k)) in
        record { is_finite = valued-finite d false q.0 q.1; divisor = P; near = rw (plus-exact d q.0 q.1) (near-bound (suc (suc k)) (q.0 * S) (D * 2 ^ 1074) K c) }

  -- of n numbers
  pub accurate : (e : List Float) (n : ℕ) → 2 ≤ n → n ≤ 256 → ((t : ℕ) → t < n → Number (e ‼ t)) → ((t : ℕ) → t < n → Among lo hi (nat_abs (exact (e ‼ t))))
      → ((t : ℕ) → t < n - 1 → Among lo hi (nat_abs (exact_difference e t))) → eq (SS e n) plus_zero ≡ false → Accurate n (SD e (n - 1) ⊘ SS e n) (exact_sd e (n - 1)) (exact_ss e n)
  accurate e zero a b numbers sized apart h = absurd (not-suc-le-zero a)
  accurate e (suc zero) a b numbers sized apart h = absurd (not-suc-le-zero (le_of_suc-le-suc a))
  accurate e (suc (suc k)) a b numbers sized apart h =
      let c : suc (suc k) - 1 ≡ suc k = omega arith in
      rw c (counted e k b numbers sized (λ (t : ℕ) (g : t < suc k). apart t (omega arith)) h)
