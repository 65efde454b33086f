-- The middle of two finite numbers, half their rounded sum, lies between them where twice each is below the overflow. A number of a format is a whole number of its smallest values,
-- counted in `Counts x s n`; then orders are those of whole numbers. One idea: rounding keeps the order and changes no number that the format holds, and twice a number is one. Assumes nothing.
use mathlib.Core.Path.{◌≡◌, refl, sym, ap, ◌∙◌, subst}
use mathlib.Core.Logic.{◌⊎◌, inl, inr, ⊎_elim}
use mathlib.Core.Bool.{Bool, true, false, ◌&&◌, ◌||◌, cond, true≢false}
use Prim.Native.Nat.{ℕ, zero, suc, ◌+◌, ◌-◌, ◌*◌, ◌%◌, ◌^◌, ◌≤◌, ◌<◌}
use native.Mathlib.Nat.{eq-or-lt_of_le, eq-zero-or-pos, le_trans, le_of_eq, mul_comm, mul_assoc, mul_left_comm, mul_right_comm, mul-le-mul_right, le_of_mul-le-mul_right, eq_of_mul-eq-mul_right, mul-pos, zero-mul, one-mul, mul-one, add-mul, mul-sub, sub-eq-zero_of_le, pow-succ', lt_of_not-le, not-le_of_lt, le_of_suc-le-suc, sub-add_cancel, add-suc, lt_of_mul-lt-mul_right, mul-lt-mul_of_pos_right}
use native.Mathlib.Omega.{arith}
use lib.IntN.{ℤ, pos, negsuc}
use lib.Dec.{T, ltb, eqb, leb, leb→le, ltb→lt}
use borrow.Author.Tests.{ltb-true, ltb-false, eqb-true, lt-ltb, eq-eqb}
use lib.Pow.{pow-add, pow_pos, pow-lt}
use lib.Ieee.{Float, nan, inf, fin, Format, prec, emax, low, up, down, unlike, units, odd, round, sum, add, mul, le, below, level, fits}
use lib.Ieee.Fits.{down_pos, and_l, and_r, round_is}
use lib.Ieee.Bits.{is_true}
use lib.Ieee.Exact.{HasValue, units_val, round_exact}
use lib.Ieee.Order.{kept, drop, round_mono}
use lib.Ieee.Scale.{finite, grid, overflow, round_val, round_under}

-- ---- signed whole numbers: minus where the sign is true

-- ±a ≤ ±b
abbrev Below : Bool → ℕ → Bool → ℕ → Type 0
Below s a t b = cond s 0 a + cond t b 0 ≤ cond t 0 b + cond s a 0

one_of : (x y : Bool) → (x || (y && true)) ≡ true → (x ≡ true) ⊎ (y ≡ true)
one_of true y h = inl refl
one_of false true h = inr refl
one_of false false h = absurd (true≢false (sym h))

both_of : (x y : Bool) → (x && (false || y)) ≡ true → (x ≡ true) × (y ≡ true)
both_of true true h = (refl, refl)
both_of true false h = absurd (true≢false (sym h))
both_of false y h = absurd (true≢false (sym h))

or-true : (x : Bool) → (x || true) ≡ true
or-true true = refl
or-true false = refl

-- what `le` tests of two finite numbers
abbrev tested : Bool → ℕ → Bool → ℕ → Bool
tested s a t b = below s a t b || level s a t b

order-of : (s : Bool) (a : ℕ) (t : Bool) (b : ℕ) → tested s a t b ≡ true → Below s a t b
order-of false a false b h = ⊎_elim (λ e. let l = ltb-true a b e in omega arith) (λ e. let l = eqb-true a b e in omega arith) (one_of (ltb a b) (eqb a b) h)
order-of true a true b h = ⊎_elim (λ e. let l = ltb-true b a e in omega arith) (λ e. let l = eqb-true a b e in omega arith) (one_of (ltb b a) (eqb a b) h)
order-of true a false b h = omega arith
order-of false a true b h =
    let e = both_of (eqb a b) (eqb a 0) h in
    let p = eqb-true a b e.0 in
    let q = eqb-true a 0 e.1 in
    omega arith

test_of : (s : Bool) (a : ℕ) (t : Bool) (b : ℕ) → Below s a t b → tested s a t b ≡ true
test_of false a false b h = ⊎_elim (λ e. rw (eq-eqb a b e) (or-true (ltb a b))) (λ l. rw (lt-ltb a b l)) (eq-or-lt_of_le {n = a} {m = b} (omega arith))
test_of true a true b h = ⊎_elim (λ e. rw (eq-eqb a b (sym e)) (or-true (ltb b a))) (λ l. rw (lt-ltb b a l)) (eq-or-lt_of_le {n = b} {m = a} (omega arith))
test_of true a false b h = ⊎_elim (λ z. let p : a ≡ 0 = omega arith in let q : b ≡ 0 = omega arith in rw (p, q)) (λ l. rw (lt-ltb 0 (a + b) l)) (eq-zero-or-pos (a + b))
test_of false a true b h = let p : a ≡ 0 = omega arith in let q : b ≡ 0 = omega arith in rw (p, q)

-- the order of a / c and b / c is that of x / d and y / d where they are equal
module _ (x y a b c d : ℕ) (C : 0 < c) (D : 0 < d) (p : x * c ≡ a * d) (q : y * c ≡ b * d) where
  le-scaled : x ≤ y → a ≤ b
  le-scaled h = le_of_mul-le-mul_right (le_trans (le_of_eq (sym p)) (le_trans (mul-le-mul_right c h) (le_of_eq q))) D

  le-unscaled : a ≤ b → x ≤ y
  le-unscaled h = le_of_mul-le-mul_right (le_trans (le_of_eq p) (le_trans (mul-le-mul_right d h) (le_of_eq (sym q)))) C

nothing-scaled : (x a c d : ℕ) → 0 < d → x * c ≡ a * d → x ≤ 0 → a ≤ 0
nothing-scaled x a c d D p h = le_of_mul-le-mul_right (le_trans (le_of_eq (sym p)) (le_trans (mul-le-mul_right c h) (le_of_eq (zero-mul c ∙ sym (zero-mul d))))) D

below-scaled : (s t : Bool) (x y a b c d : ℕ) → 0 < c → 0 < d → x * c ≡ a * d → y * c ≡ b * d → Below s x t y → Below s a t b
below-scaled false false x y a b c d C D p q h = let l = le-scaled x y a b c d C D p q (omega arith) in omega arith
below-scaled true true x y a b c d C D p q h = let l = le-scaled y x b a c d C D q p (omega arith) in omega arith
below-scaled true false x y a b c d C D p q h = omega arith
below-scaled false true x y a b c d C D p q h =
    let l = nothing-scaled x a c d D p (omega arith) in
    let k = nothing-scaled y b c d D q (omega arith) in
    omega arith

below-unscaled : (s t : Bool) (x y a b c d : ℕ) → 0 < c → 0 < d → x * c ≡ a * d → y * c ≡ b * d → Below s a t b → Below s x t y
below-unscaled s t x y a b c d C D p q h = below-scaled s t a b x y d c D C (sym p) (sym q) h

-- ---- numbers of a format, counted in its smallest value

module _ (f : Format) where
  -- x is ±n of the smallest values
  abbrev Counts : Float → Bool → ℕ → Type 0
  Counts x s n = HasValue x s n (2 ^ low f)

  cross : (m : ℕ) (e : ℤ) (d : ℤ) (a : ℕ) → m * up e * 2 ^ low f ≡ a * down e → m * up e * down d * 2 ^ low f ≡ a * (down e * down d)
  cross m e d a p = mul_right_comm (m * up e) (down d) (2 ^ low f) ∙ ap (λ z. z * down d) p ∙ mul_assoc a (down e) (down d)

  order-counts : (x y : Float) (s t : Bool) (a b : ℕ) → Counts x s a → Counts y t b → le x y ≡ true → Below s a t b
  unfolding le
  order-counts nan y s t a b p q h = absurd p
  order-counts (inf s') y s t a b p q h = absurd p
  order-counts (fin s' m e) nan s t a b p q h = absurd q
  order-counts (fin s' m e) (inf t') s t a b p q h = absurd q
  order-counts (fin s' m e) (fin t' n d) s t a b p q h =
      below-scaled s t (m * up e * down d) (n * up d * down e) a b (2 ^ low f) (down e * down d) (pow_pos (low f)) (mul-pos (down_pos e) (down_pos d))
      (cross m e d a p.1) (cross n d e b q.1 ∙ ap (λ z. b * z) (mul_comm (down d) (down e)))
      (subst (λ k. Below k (m * up e * down d) t (n * up d * down e)) p.0 (subst (λ k. Below s' (m * up e * down d) k (n * up d * down e)) q.0 (order-of s' (m * up e * down d) t' (n * up d * down e) h)))

  counts-order : (x y : Float) (s t : Bool) (a b : ℕ) → Counts x s a → Counts y t b → Below s a t b → le x y ≡ true
  unfolding le
  counts-order nan y s t a b p q h = absurd p
  counts-order (inf s') y s t a b p q h = absurd p
  counts-order (fin s' m e) nan s t a b p q h = absurd q
  counts-order (fin s' m e) (inf t') s t a b p q h = absurd q
  counts-order (fin s' m e) (fin t' n d) s t a b p q h =
      test_of s' (m * up e * down d) t' (n * up d * down e)
      (subst (λ k. Below k (m * up e * down d) t' (n * up d * down e)) (sym p.0) (subst (λ k. Below s (m * up e * down d) k (n * up d * down e)) (sym q.0)
      (below-unscaled s t (m * up e * down d) (n * up d * down e) a b (2 ^ low f) (down e * down d) (pow_pos (low f)) (mul-pos (down_pos e) (down_pos d))
      (cross m e d a p.1) (cross n d e b q.1 ∙ ap (λ z. b * z) (mul_comm (down d) (down e))) h)))

  -- ---- rounding, counted

  -- n of the smallest values is a number that the format holds
  abbrev Held : ℕ → Type 0
  Held n = (q : ℕ) × (j : ℕ) × (q < 2 ^ prec f) × (n ≡ q * 2 ^ j) × (n < overflow f)

  round-counts : (s : Bool) (a c : ℕ) → grid f a c < overflow f → Counts (round f s a c) s (grid f a c)
  round-counts s a c h = subst (λ z. Counts z s (grid f a c)) (sym (round_is f s a c)) (units_val f s (kept (prec f) (a * 2 ^ low f) c) (drop (prec f) (a * 2 ^ low f) c) h)

  finite-of : (x : Float) (s : Bool) (a c : ℕ) → HasValue x s a c → T (finite x)
  finite-of nan s a c h = absurd h
  finite-of (inf t) s a c h = absurd h
  finite-of (fin t m e) s a c h = tt

  same_count : (x : Float) (s : Bool) (n m a c : ℕ) → 0 < c → a * 2 ^ low f ≡ n * c → HasValue x s a c → Counts x s m → m ≡ n
  same_count nan s n m a c C e h k = absurd h
  same_count (inf t) s n m a c C e h k = absurd h
  same_count (fin t p d) s n m a c C e h k =
      eq_of_mul-eq-mul_right (down d) (down_pos d) m n
      (eq_of_mul-eq-mul_right c C (m * down d) (n * down d)
      (ap (λ z. z * c) (sym k.1)
      ∙ mul_right_comm (p * up d) (2 ^ low f) c
      ∙ ap (λ z. z * 2 ^ low f) h.1
      ∙ mul_right_comm a (down d) (2 ^ low f)
      ∙ ap (λ z. z * down d) e
      ∙ mul_right_comm n c (down d)))

  -- rounding changes no number that the format holds
  grid-held : (n a c : ℕ) → 0 < c → Held n → a * 2 ^ low f ≡ n * c → grid f a c ≡ n
  grid-held n a c C (q, j, small, e, fine) h =
      let v : HasValue (round f false a c) false a c = round_exact f false a c q j C small (subst (λ z. z < overflow f) e fine) (h ∙ ap (λ z. z * c) e) in
      let under : grid f a c < overflow f = round_under f a c (finite-of (round f false a c) false a c v) in
      same_count (round f false a c) false n (grid f a c) a c C h v (round_val f a c under)

  -- and keeps the order
  beyond : (y : Float) → T (finite y) → T (le (inf false) y) → ⊥
  unfolding le
  beyond nan h l = h
  beyond (inf t) h l = h
  beyond (fin t n d) h l = l

  not_infinite : (a c : ℕ) (y : Float) → T (finite y) → T (le (round f false a c) y) → grid f a c < overflow f
  unfolding units
  not_infinite a c y h l = go (ltb (grid f a c) (overflow f)) (ltb→lt (grid f a c) (overflow f)) (subst (λ z. T (le z y)) (round_is f false a c) l)
    where
      go : (b : Bool) → (T b → grid f a c < overflow f) → T (le (cond b (odd (suc (prec f)) false (kept (prec f) (a * 2 ^ low f) c) (drop (prec f) (a * 2 ^ low f) c) (low f)) (inf false)) y) → grid f a c < overflow f
      go true k l = k tt
      go false k l = absurd (beyond y h l)

  grid-under : (a b c d : ℕ) → 0 < b → 0 < d → a * d ≤ c * b → grid f c d < overflow f → (grid f a b ≤ grid f c d) × (grid f a b < overflow f)
  grid-under a b c d B D h fine =
      let l : T (le (round f false a b) (round f false c d)) = round_mono f a b c d B D h in
      let v : Counts (round f false c d) false (grid f c d) = round_val f c d fine in
      let under : grid f a b < overflow f = not_infinite a b (round f false c d) (finite-of (round f false c d) false (grid f c d) (2 ^ low f) v) l in
      let o : Below false (grid f a b) false (grid f c d) = order-counts (round f false a b) (round f false c d) false false (grid f a b) (grid f c d) (round_val f a b under) v (is_true (le (round f false a b) (round f false c d)) l) in
      (omega arith, under)

  -- a fraction between two numbers that the format holds is rounded to one between them
  between : (lo hi a c : ℕ) → 0 < c → Held lo → Held hi → lo * c ≤ a * 2 ^ low f → a * 2 ^ low f ≤ hi * c → (lo ≤ grid f a c) × (grid f a c ≤ hi) × (grid f a c < overflow f)
  between lo hi a c C L H h k =
      let low-is : grid f lo (2 ^ low f) ≡ lo = grid-held lo lo (2 ^ low f) (pow_pos (low f)) L refl in
      let high_is : grid f hi (2 ^ low f) ≡ hi = grid-held hi hi (2 ^ low f) (pow_pos (low f)) H refl in
      let top : (grid f a c ≤ grid f hi (2 ^ low f)) × (grid f a c < overflow f) = grid-under a c hi (2 ^ low f) C (pow_pos (low f)) k (subst (λ z. z < overflow f) (sym high_is) H.4) in
      let bottom : (grid f lo (2 ^ low f) ≤ grid f a c) × (grid f lo (2 ^ low f) < overflow f) = grid-under lo (2 ^ low f) a c (pow_pos (low f)) C h top.1 in
      (le_trans (le_of_eq (sym low-is)) bottom.0, le_trans top.0 (le_of_eq high_is), top.1)

  -- ---- the sum: twice the lesser, the sum and twice the greater are in order

  -- a number between ±a and ±b
  abbrev Between : Bool → ℕ → Bool → ℕ → Float → Type 0
  Between s a t b y = (r : Bool) × (g : ℕ) × Counts y r g × Below s a r g × Below r g t b

  nothing-held : Held 0
  nothing-held = (0, 0, pow_pos (prec f), sym (zero-mul (2 ^ 0)), pow_pos (low f + suc (emax f)))

  module _ (X Y D a b : ℕ) (P : 0 < D) (x : X * 2 ^ low f ≡ a * D) (y : Y * 2 ^ low f ≡ b * D) (A : Held (2 * a)) (B : Held (2 * b)) where
    together : (X + Y) * 2 ^ low f ≡ (a + b) * D
    together = add-mul X Y (2 ^ low f) ∙ ap (λ z. z + Y * 2 ^ low f) x ∙ ap (λ z. a * D + z) y ∙ sym (add-mul a b D)

    apart : (X - Y) * 2 ^ low f ≡ (a - b) * D
    apart = mul_comm (X - Y) (2 ^ low f) ∙ mul-sub (2 ^ low f) X Y ∙ difference ∙ sym (mul_comm (a - b) D ∙ mul-sub D a b)
      where
        difference : 2 ^ low f * X - 2 ^ low f * Y ≡ D * a - D * b
        difference = rw (mul_comm (2 ^ low f) X, mul_comm (2 ^ low f) Y, x, y, mul_comm D a, mul_comm D b)

  module _ (X Y D a b : ℕ) (P : 0 < D) (x : X * 2 ^ low f ≡ a * D) (y : Y * 2 ^ low f ≡ b * D) (A : Held (2 * a)) (B : Held (2 * b)) where
    -- n / D rounded, where it lies between two numbers that the format holds
    rounded : (lo hi N n : ℕ) (r : Bool) → Held lo → Held hi → N * 2 ^ low f ≡ n * D → lo ≤ n → n ≤ hi → (g : ℕ) × Counts (round f r N D) r g × (lo ≤ g) × (g ≤ hi)
    rounded lo hi N n r L H e l k =
        let m = between lo hi N D P L H (le_trans (mul-le-mul_right D l) (le_of_eq (sym e))) (le_trans (le_of_eq e) (mul-le-mul_right D k)) in
        (grid f N D, round-counts r N D m.2, m.0, m.1)

    both : (X + Y) * 2 ^ low f ≡ (a + b) * D
    both = together X Y D a b P x y A B

    more : (X - Y) * 2 ^ low f ≡ (a - b) * D
    more = apart X Y D a b P x y A B

    fewer : (Y - X) * 2 ^ low f ≡ (b - a) * D
    fewer = apart Y X D b a P y x B A

    sum-between : (s t : Bool) → Below s a t b → Between s (2 * a) t (2 * b) (sum f s X t Y D)
    unfolding sum
    sum-between false false h = let g = rounded (2 * a) (2 * b) (X + Y) (a + b) false A B both (omega arith) (omega arith) in (false, g.0, g.1, omega (arith, g.2), omega (arith, g.3))
    sum-between true true h = let g = rounded (2 * b) (2 * a) (X + Y) (a + b) true B A both (omega arith) (omega arith) in (true, g.0, g.1, omega (arith, g.3), omega (arith, g.2))
    sum-between true false h = go (ltb X Y) (ltb Y X) (ltb-false X Y) (ltb-false Y X)
      where
        go : (p q : Bool) → (p ≡ false → Y ≤ X) → (q ≡ false → X ≤ Y) → Between true (2 * a) false (2 * b) (cond p (round f false (Y - X) D) (round f (true && q) (X - Y) D))
        go true q k l = let g = rounded 0 (2 * b) (Y - X) (b - a) false nothing-held B fewer (omega arith) (omega arith) in (false, g.0, g.1, omega arith, omega (arith, g.3))
        go false true k l = let g = rounded 0 (2 * a) (X - Y) (a - b) true nothing-held A more (omega arith) (omega arith) in (true, g.0, g.1, omega (arith, g.3), omega arith)
        go false false k l =
            let z : (X - Y) * 2 ^ low f ≡ 0 * D = ap (λ n. n * 2 ^ low f) (sub-eq-zero_of_le (l refl)) ∙ zero-mul (2 ^ low f) ∙ sym (zero-mul D) in
            let g = rounded 0 0 (X - Y) 0 false nothing-held nothing-held z (omega arith) (omega arith) in
            (false, g.0, g.1, omega arith, omega (arith, g.3))
    sum-between false true h = go (ltb X Y)
      where
        go : (p : Bool) → Between false (2 * a) true (2 * b) (cond p (round f true (Y - X) D) (round f false (X - Y) D))
        go true = let g = rounded 0 (2 * b) (Y - X) (b - a) true nothing-held B fewer (omega arith) (omega arith) in (true, g.0, g.1, omega (arith, g.3), omega (arith, g.3))
        go false = let g = rounded 0 (2 * a) (X - Y) (a - b) false nothing-held A more (omega arith) (omega arith) in (false, g.0, g.1, omega (arith, g.3), omega (arith, g.3))

  -- ---- half of it

  module _ (m : ℕ) (e : ℤ) (g : ℕ) (count : m * up e * 2 ^ low f ≡ g * down e) where
    -- half of g of the smallest values, rounded
    halved : (lo hi : ℕ) (r : Bool) → Held lo → Held hi → 2 * lo ≤ g → g ≤ 2 * hi
        → (h : ℕ) × Counts (round f r (1 * up (negsuc 0) * (m * up e)) (down (negsuc 0) * down e)) r h × (lo ≤ h) × (h ≤ hi)
    halved lo hi r L H l k =
        let N : ℕ = 1 * up (negsuc 0) * (m * up e) in
        let D : ℕ = down (negsuc 0) * down e in
        let same : N * 2 ^ low f ≡ g * down e = ap (λ z. z * 2 ^ low f) (one-mul (m * up e)) ∙ count in
        let doubled : (n : ℕ) → n * D ≡ 2 * n * down e = λ n. sym (mul_assoc n 2 (down e)) ∙ ap (λ z. z * down e) (mul_comm n 2) in
        let b = between lo hi N D (mul-pos (pow_pos 1) (down_pos e)) L H (le_trans (le_of_eq (doubled lo)) (le_trans (mul-le-mul_right (down e) l) (le_of_eq (sym same)))) (le_trans (le_of_eq same) (le_trans (mul-le-mul_right (down e) k) (le_of_eq (sym (doubled hi))))) in
        (grid f N D, round-counts r N D b.2, b.0, b.1)

    half-of : (s t r : Bool) (a b : ℕ) → Held a → Held b → Below s (2 * a) r g → Below r g t (2 * b) → Between s a t b (round f r (1 * up (negsuc 0) * (m * up e)) (down (negsuc 0) * down e))
    half-of false false false a b A B h k = let z = halved a b false A B (omega arith) (omega arith) in (false, z.0, z.1, omega (arith, z.2), omega (arith, z.3))
    half-of true false false a b A B h k = let z = halved 0 b false nothing-held B (omega arith) (omega arith) in (false, z.0, z.1, omega arith, omega (arith, z.3))
    half-of false true false a b A B h k = let z = halved 0 0 false nothing-held nothing-held (omega arith) (omega arith) in (false, z.0, z.1, omega (arith, z.3), omega (arith, z.3))
    half-of true true false a b A B h k = let z = halved 0 0 false nothing-held nothing-held (omega arith) (omega arith) in (false, z.0, z.1, omega arith, omega (arith, z.3))
    half-of true true true a b A B h k = let z = halved b a true B A (omega arith) (omega arith) in (true, z.0, z.1, omega (arith, z.3), omega (arith, z.2))
    half-of true false true a b A B h k = let z = halved 0 a true nothing-held A (omega arith) (omega arith) in (true, z.0, z.1, omega (arith, z.3), omega arith)
    half-of false true true a b A B h k = let z = halved 0 0 true nothing-held nothing-held (omega arith) (omega arith) in (true, z.0, z.1, omega (arith, z.3), omega (arith, z.3))
    half-of false false true a b A B h k = let z = halved 0 0 true nothing-held nothing-held (omega arith) (omega arith) in (true, z.0, z.1, omega (arith, z.3), omega arith)

  like : (r : Bool) → unlike false r ≡ r
  like true = refl
  like false = refl

  half-between : (s t : Bool) (a b : ℕ) (y : Float) → Held a → Held b → Between s (2 * a) t (2 * b) y → Between s a t b (mul f (fin false 1 (negsuc 0)) y)
  unfolding mul
  half-between s t a b nan A B (r, g, v, h, k) = absurd v
  half-between s t a b (inf z) A B (r, g, v, h, k) = absurd v
  half-between s t a b (fin z m e) A B (r, g, v, h, k) =
      subst (λ q. Between s a t b (round f q (1 * up (negsuc 0) * (m * up e)) (down (negsuc 0) * down e))) (sym (like z ∙ v.0)) (half-of m e g v.1 s t r a b A B h k)

  -- ---- the middle

  -- a number m * 2 ^ e of the format is m * 2 ^ j of its smallest values
  shift : (e : ℤ) → down e ≤ 2 ^ low f → (j : ℕ) × (up e * 2 ^ low f ≡ 2 ^ j * down e)
  shift (pos k) h = (k + low f, sym (pow-add 2 k (low f)) ∙ sym (mul-one (2 ^ (k + low f))))
  shift (negsuc k) h =
      let room : suc k ≤ low f = le_of_suc-le-suc (lt_of_not-le (λ l. not-le_of_lt (pow-lt l) h)) in
      let back : low f - suc k + suc k ≡ low f = sub-add_cancel room in
      (low f - suc k, one-mul (2 ^ low f) ∙ ap (λ z. 2 ^ z) (sym back) ∙ pow-add 2 (low f - suc k) (suc k))

  counted : (m : ℕ) (e : ℤ) (j : ℕ) → up e * 2 ^ low f ≡ 2 ^ j * down e → m * up e * 2 ^ low f ≡ m * 2 ^ j * down e
  counted m e j h = mul_assoc m (up e) (2 ^ low f) ∙ ap (λ z. m * z) h ∙ sym (mul_assoc m (2 ^ j) (down e))

  -- below 2 ^ emax in size
  abbrev pub Small : ℕ → ℤ → Type 0
  Small m e = m * up e < 2 ^ emax f * down e

  small_count : (m : ℕ) (e : ℤ) (n : ℕ) → m * up e * 2 ^ low f ≡ n * down e → Small m e → n < 2 ^ (low f + emax f)
  small_count m e n c h =
      lt_of_mul-lt-mul_right (down e)
      (subst (λ z. z < 2 ^ (low f + emax f) * down e) c
      (subst (λ z. m * up e * 2 ^ low f < z) (mul_right_comm (2 ^ emax f) (down e) (2 ^ low f) ∙ ap (λ z. z * down e) (mul_comm (2 ^ emax f) (2 ^ low f) ∙ sym (pow-add 2 (low f) (emax f)))) (mul-lt-mul_of_pos_right h (pow_pos (low f)))))

  -- the number, and twice it where that is below the overflow
  held_number : (s : Bool) (m : ℕ) (e : ℤ) → T (fits f (fin s m e)) → Small m e → (n : ℕ) × Counts (fin s m e) s n × Held n × Held (2 * n)
  unfolding fits
  held_number s zero e h l = (0, (refl, nothing e), nothing-held, nothing-held)
    where
      nothing : (e : ℤ) → 0 * up e * 2 ^ low f ≡ 0 * down e
      nothing e = ap (λ z. z * 2 ^ low f) (zero-mul (up e)) ∙ zero-mul (2 ^ low f) ∙ sym (zero-mul (down e))
  held_number s (suc m) e h l =
      let A : Bool = eqb (suc m % 2) 1 in
      let B : Bool = ltb (suc m) (2 ^ prec f) in
      let C : Bool = leb (down e) (2 ^ low f) in
      let D : Bool = ltb (suc m * up e) (2 ^ suc (emax f) * down e) in
      let small : suc m < 2 ^ prec f = ltb→lt (suc m) (2 ^ prec f) (and_r A B (and_l (A && B) C (and_l (A && B && C) D h))) in
      let low-end : down e ≤ 2 ^ low f = leb→le (down e) (2 ^ low f) (and_r (A && B) C (and_l (A && B && C) D h)) in
      let j : ℕ = (shift e low-end).0 in
      let c : suc m * up e * 2 ^ low f ≡ suc m * 2 ^ j * down e = counted (suc m) e j (shift e low-end).1 in
      let half : suc m * 2 ^ j < 2 ^ (low f + emax f) = small_count (suc m) e (suc m * 2 ^ j) c l in
      let top : overflow f ≡ 2 * 2 ^ (low f + emax f) = ap (λ z. 2 ^ z) (add-suc (low f) (emax f)) ∙ pow-succ' 2 (low f + emax f) in
      let twice : 2 * (suc m * 2 ^ j) ≡ suc m * 2 ^ suc j = mul_left_comm 2 (suc m) (2 ^ j) ∙ ap (λ z. suc m * z) (sym (pow-succ' 2 j)) in
      (suc m * 2 ^ j, (refl, c), (suc m, j, small, refl, subst (λ z. suc m * 2 ^ j < z) (sym top) (double (suc m * 2 ^ j) (2 ^ (low f + emax f)) half)), (suc m, suc j, small, twice, subst (λ z. 2 * (suc m * 2 ^ j) < z) (sym top) (twofold (suc m * 2 ^ j) (2 ^ (low f + emax f)) half)))
    where
      double : (x y : ℕ) → x < y → x < 2 * y
      double x y h = omega arith

      twofold : (x y : ℕ) → x < y → 2 * x < 2 * y
      twofold x y h = omega arith

  -- x ≤ y: then x ≤ (x + y) / 2 ≤ y, the sum and the half rounded
  pub middle-between : (s : Bool) (m : ℕ) (e : ℤ) (t : Bool) (n : ℕ) (d : ℤ) → T (fits f (fin s m e)) → T (fits f (fin t n d)) → Small m e → Small n d → le (fin s m e) (fin t n d) ≡ true
      → (le (fin s m e) (mul f (fin false 1 (negsuc 0)) (add f (fin s m e) (fin t n d))) ≡ true) × (le (mul f (fin false 1 (negsuc 0)) (add f (fin s m e) (fin t n d))) (fin t n d) ≡ true)
  unfolding add
  middle-between s m e t n d p q h k l =
      let (a, ca, A, A2) = held_number s m e p h in
      let (b, cb, B, B2) = held_number t n d q k in
      let o : Below s a t b = order-counts (fin s m e) (fin t n d) s t a b ca cb l in
      let y : Between s (2 * a) t (2 * b) (add f (fin s m e) (fin t n d)) =
      sum-between (m * up e * down d) (n * up d * down e) (down e * down d) a b (mul-pos (down_pos e) (down_pos d)) (cross m e d a ca.1) (cross n d e b cb.1 ∙ ap (λ z. b * z) (mul_comm (down d) (down e))) A2 B2 s t o in
      let (r, g, c, low, high) = half-between s t a b (add f (fin s m e) (fin t n d)) A B y in
      (counts-order (fin s m e) _ s r a g ca c low, counts-order _ (fin t n d) r t g b c cb high)

  -- ---- what lies between two numbers that are small enough

  -- how any finite number of the format is counted
  count_of : (s : Bool) (m : ℕ) (e : ℤ) → T (fits f (fin s m e)) → (n : ℕ) × Counts (fin s m e) s n
  unfolding fits
  count_of s zero e h = (0, (refl, ap (λ z. z * 2 ^ low f) (zero-mul (up e)) ∙ zero-mul (2 ^ low f) ∙ sym (zero-mul (down e))))
  count_of s (suc m) e h =
      let A : Bool = eqb (suc m % 2) 1 in
      let B : Bool = ltb (suc m) (2 ^ prec f) in
      let C : Bool = leb (down e) (2 ^ low f) in
      let low-end : down e ≤ 2 ^ low f = leb→le (down e) (2 ^ low f) (and_r (A && B) C (and_l (A && B && C) (ltb (suc m * up e) (2 ^ suc (emax f) * down e)) h)) in
      (suc m * 2 ^ (shift e low-end).0, (refl, counted (suc m) e (shift e low-end).0 (shift e low-end).1))

  count_small : (m : ℕ) (e : ℤ) (n : ℕ) → m * up e * 2 ^ low f ≡ n * down e → n < 2 ^ (low f + emax f) → Small m e
  count_small m e n c h =
      lt_of_mul-lt-mul_right (2 ^ low f)
      (subst (λ z. z < 2 ^ emax f * down e * 2 ^ low f) (sym c)
      (subst (λ z. n * down e < z) (sym (mul_right_comm (2 ^ emax f) (down e) (2 ^ low f) ∙ ap (λ z. z * down e) (mul_comm (2 ^ emax f) (2 ^ low f) ∙ sym (pow-add 2 (low f) (emax f))))) (mul-lt-mul_of_pos_right h (down_pos e))))

  below-trans : (s r t : Bool) (a g b : ℕ) → Below s a r g → Below r g t b → Below s a t b
  below-trans s r t a g b h k = omega arith

  between-small : (s r t : Bool) (a g b M : ℕ) → Below s a r g → Below r g t b → a < M → b < M → g < M
  between-small s true t a g b M h k p q = by s h
    where
      by : (s : Bool) → Below s a true g → g < M
      by true h = omega arith
      by false h = omega arith
  between-small s false t a g b M h k p q = by t k
    where
      by : (t : Bool) → Below false g t b → g < M
      by true k = omega arith
      by false k = omega arith

  module _ (s : Bool) (m : ℕ) (e : ℤ) (r : Bool) (k : ℕ) (c : ℤ) (t : Bool) (n : ℕ) (d : ℤ) (p : T (fits f (fin s m e))) (v : T (fits f (fin r k c))) (q : T (fits f (fin t n d))) (h : le (fin s m e) (fin r k c) ≡ true) (l : le (fin r k c) (fin t n d) ≡ true) where
    pub le-through : le (fin s m e) (fin t n d) ≡ true
    le-through =
        let (a, ca) = count_of s m e p in
        let (g, cg) = count_of r k c v in
        let (b, cb) = count_of t n d q in
        counts-order (fin s m e) (fin t n d) s t a b ca cb (below-trans s r t a g b (order-counts (fin s m e) (fin r k c) s r a g ca cg h) (order-counts (fin r k c) (fin t n d) r t g b cg cb l))

    pub small-through : Small m e → Small n d → Small k c
    small-through x y =
        let (a, ca) = count_of s m e p in
        let (g, cg) = count_of r k c v in
        let (b, cb) = count_of t n d q in
        count_small k c g cg.1 (between-small s r t a g b (2 ^ (low f + emax f)) (order-counts (fin s m e) (fin r k c) s r a g ca cg h) (order-counts (fin r k c) (fin t n d) r t g b cg cb l) (small_count m e a ca.1 x) (small_count n d b cb.1 y))
