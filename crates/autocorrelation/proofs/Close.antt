-- `Close k x X`: each of x and X is at least 1 - k / 2^53 times the other. One rounding is worth one k, and k's add up where values are
-- added, multiplied or passed on, since (1 - a)(1 - b) ≥ 1 - (a + b). So a bound over many roundings needs no powers. Assumes nothing.
use Prim.Native.Nat.{ℕ, ◌+◌, ◌-◌, ◌*◌, ◌^◌, ◌≤◌, ◌<◌}
use mathlib.Core.Path.{◌≡◌, sym, ap, ◌∙◌, subst}
use native.Mathlib.Nat.{lt_of_lt_of_le, le-add_right, add-mul, le_refl, le_trans, le_of_eq, add_comm, mul_comm, mul_assoc, mul_right_comm, mul-le-mul_left, mul-le-mul_right, le_of_mul-le-mul_right, mul-add, mul-sub, sub-le, sub-add-eq}
use native.Mathlib.Omega.{arith}
use lib.Dec.{lit<}

pub record Close (k x X : ℕ) : Type 0 where
  pub below : x * (2 ^ 53 - k) ≤ X * 2 ^ 53
  pub above : X * (2 ^ 53 - k) ≤ x * 2 ^ 53

pub close-refl : {x : ℕ} → Close 0 x x
close-refl {x} = record { below = le_refl (x * 2 ^ 53); above = le_refl (x * 2 ^ 53) }

pub close-sym : {k x X : ℕ} → Close k x X → Close k X x
close-sym h = record { below = h.above; above = h.below }

pub close_more : {k l x X : ℕ} → k ≤ l → Close k x X → Close l x X
close_more {k} {l} {x} {X} g h = record { below = le_trans (mul-le-mul_left x less) h.below; above = le_trans (mul-le-mul_left X less) h.above }
  where
    less : 2 ^ 53 - l ≤ 2 ^ 53 - k
    less = omega arith

-- (1 - a)(1 - b) ≥ 1 - (a + b), with P for 1
both : (P i j : ℕ) → P * (P - (i + j)) ≤ (P - i) * (P - j)
both P i j = omega (arith, ap (λ (z : ℕ). P * z) (sub-add-eq P i j), mul-sub P (P - i) j, mul-sub (P - i) P j, mul-le-mul_right j (sub-le P i), mul_comm P (P - i))

chain : (P i j x y z : ℕ) → 0 < P → x * (P - i) ≤ y * P → y * (P - j) ≤ z * P → x * (P - (i + j)) ≤ z * P
chain P i j x y z p h g =
    le_of_mul-le-mul_right
    (le_trans (le_of_eq (mul_assoc x (P - (i + j)) P ∙ ap (λ (w : ℕ). x * w) (mul_comm (P - (i + j)) P)))
    (le_trans (mul-le-mul_left x (both P i j))
    (le_trans (le_of_eq (sym (mul_assoc x (P - i) (P - j))))
    (le_trans (mul-le-mul_right (P - j) h)
    (le_trans (le_of_eq (mul_right_comm y P (P - j))) (mul-le-mul_right P g))))))
    p

pub close-trans : {i j x y z : ℕ} → Close i x y → Close j y z → Close (i + j) x z
close-trans {i} {j} {x} {y} {z} h g = record {
  below = chain (2 ^ 53) i j x y z (lit< tt) h.below g.below;
  above = rw (add_comm i j) (chain (2 ^ 53) j i z y x (lit< tt) g.above h.above);
}

sum : (x y X Y p q : ℕ) → x * p ≤ X * q → y * p ≤ Y * q → (x + y) * p ≤ (X + Y) * q
sum x y X Y p q h g = omega arith

pub close-add : {k x y X Y : ℕ} → Close k x X → Close k y Y → Close k (x + y) (X + Y)
close-add {k} {x} {y} {X} {Y} h g = record {
  below = sum x y X Y (2 ^ 53 - k) (2 ^ 53) h.below g.below;
  above = sum X Y x y (2 ^ 53 - k) (2 ^ 53) h.above g.above;
}

-- a common factor comes, and goes
times : (c p q x X : ℕ) → x * p ≤ X * q → x * c * p ≤ X * c * q
times c p q x X h = rw (mul_right_comm x c p, mul_right_comm X c q) (mul-le-mul_right c h)

pub close-times : {k x X : ℕ} (c : ℕ) → Close k x X → Close k (x * c) (X * c)
close-times {k} {x} {X} c h = record { below = times c (2 ^ 53 - k) (2 ^ 53) x X h.below; above = times c (2 ^ 53 - k) (2 ^ 53) X x h.above }

over : (c p q x X : ℕ) → 0 < c → x * c * p ≤ X * c * q → x * p ≤ X * q
over c p q x X C h = le_of_mul-le-mul_right (rw (mul_right_comm x p c, mul_right_comm X q c) h) C

pub close-over : {k x X : ℕ} (c : ℕ) → 0 < c → Close k (x * c) (X * c) → Close k x X
close-over {k} {x} {X} c C h = record { below = over c (2 ^ 53 - k) (2 ^ 53) x X C h.below; above = over c (2 ^ 53 - k) (2 ^ 53) X x C h.above }

pub close-mul : {i j x y X Y : ℕ} → Close i x X → Close j y Y → Close (i + j) (x * y) (X * Y)
close-mul {x = x} {y = y} {X = X} {Y = Y} h g = close-trans (close-times y h) (rw (mul_comm X y, mul_comm X Y) (close-times X g))

-- ---- what it comes to

-- at most twice the other
pub close-double : {k x X : ℕ} → k ≤ 2 ^ 52 → Close k x X → x ≤ X * 2
close-double {k} {x} {X} h c = omega (arith, mul-le-mul_left {m = 2 ^ 52} {n = 2 ^ 53 - k} x (omega arith), c.below)

pub close-zero : {k x X : ℕ} → k ≤ 2 ^ 52 → Close k x X → X ≡ 0 → x ≡ 0
close-zero h c z = omega (arith, close-double h c)

pub close-half : {k x X : ℕ} (m : ℕ) → k ≤ 2 ^ 52 → Close k x X → m * 2 ≤ X → m ≤ x
close-half m h c g = omega (arith, close-double h (close-sym c))

-- 1 / (1 - a) ≤ 1 + a + 2 u for a = k u, with c + k for 1
inverse : (c k : ℕ) → k * k ≤ 2 * c → (c + k) * (c + k) ≤ c * (c + k + (k + 2))
inverse c k h = omega (arith, add-mul c k (c + k), mul-add c c k, mul-add k c k, mul_comm c k, mul-add c (c + k) (k + 2), mul-add c k 2)

outward : (c k x X : ℕ) → 0 < c → k * k ≤ 2 * c → x * c ≤ X * (c + k) → x * (c + k) ≤ X * (c + k + (k + 2))
outward c k x X C h g =
    le_of_mul-le-mul_right
    (le_trans (le_of_eq (mul_assoc x (c + k) (c + k)))
    (le_trans (mul-le-mul_left x (inverse c k h))
    (le_trans (le_of_eq (sym (mul_assoc x c (c + k + (k + 2)))))
    (le_trans (mul-le-mul_right (c + k + (k + 2)) g) (le_of_eq (mul_right_comm X (c + k) (c + k + (k + 2))))))))
    (lt_of_lt_of_le C (le-add_right c k))

-- THE LAST STEP: after 2 n + 2 roundings, |x - X| ≤ (2 n + 4) / 2^53 · X
pub close-bound : {n x X : ℕ} → n ≤ 256 → Close (2 * n + 2) x X → (x * 2 ^ 53 ≤ X * 2 ^ 53 + X * (2 * n + 4)) × (X * 2 ^ 53 ≤ x * 2 ^ 53 + X * (2 * n + 4))
close-bound {n} {x} {X} h c =
    let k = 2 * n + 2 in
    let p : 2 ^ 53 ≡ 2 ^ 53 - k + k = omega arith in
    let out : x * 2 ^ 53 ≤ X * (2 ^ 53 + (k + 2)) =
    subst (λ (P : ℕ). x * P ≤ X * (P + (k + 2))) (sym p)
    (outward (2 ^ 53 - k) k x X (omega arith) (le_trans (mul-le-mul_left {m = k} {n = 514} k (omega arith)) (omega arith)) (subst (λ (P : ℕ). x * (2 ^ 53 - k) ≤ X * P) p c.below)) in
    let more : k + 2 ≡ 2 * n + 4 = omega arith in (
      le_trans out (le_of_eq (mul-add X (2 ^ 53) (k + 2) ∙ ap (λ (z : ℕ). X * 2 ^ 53 + X * z) more)),
      rest (X * 2 ^ 53) (X * k) (X * 2) (x * 2 ^ 53) (X * (2 * n + 4)) (le_trans (le_of_eq (sym (mul-sub X (2 ^ 53) k))) c.above) (sym (mul-add X k 2) ∙ ap (λ (z : ℕ). X * z) more),
    )
  where
    rest : (a b c d z : ℕ) → a - b ≤ d → b + c ≡ z → a ≤ d + z
    rest a b c d z h g = omega arith
