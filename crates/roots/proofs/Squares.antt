-- Whole-number squares, and the whole part of a root. Nothing here is about floats. Assumes nothing.
use Rattle.std.proofs.Common.{◌≡◌, ℕ, zero, suc, ◌+◌, ◌-◌, ◌*◌, ◌^◌, ◌<◌, ◌≤◌, Bool, true, false, not, T, ltb, ◌⊎◌, refl, inl, inr, zero-le, lt_of_le_of_lt, le_of_lt, mul-le-mul, mul-le-mul_left, mul-lt-mul_of_pos_right, mul-pos, pow-suc, lt_of_not-le, not-le_of_lt, arith, ltb→lt, nltb→le, pow_pos}
use Rattle.roots.specs.Root.{IsRoot}

pub side : (a b : ℕ) → (a < b) ⊎ (b ≤ a)
side a b = go (ltb a b) (ltb→lt a b) (nltb→le a b)
  where
    go : (t : Bool) → (T t → a < b) → (T (not t) → b ≤ a) → (a < b) ⊎ (b ≤ a)
    go true y n = inl (y tt)
    go false y n = inr (n tt)

-- the square of a power of two, and of x of them
pub four-power : (k : ℕ) → 4 ^ k ≡ 2 ^ k * 2 ^ k
four-power zero = refl
four-power (suc k) = rw (pow-suc 4 k, pow-suc 2 k, four-power k) (omega arith)

pub four-pos : (k : ℕ) → 0 < 4 ^ k
four-pos k = rw (four-power k) (mul-pos (pow_pos k) (pow_pos k))

pub square-of : (x k : ℕ) → x * 2 ^ k * (x * 2 ^ k) ≡ x * x * 4 ^ k
square-of x k = rw (four-power k) (omega arith)

-- ---- orders of numbers and of their squares
pub sq-le : {a b : ℕ} → a ≤ b → a * a ≤ b * b
sq-le h = mul-le-mul h h

pub sq-lt : {a b : ℕ} → a < b → a * a < b * b
sq-lt {a} {b} h = lt_of_le_of_lt (mul-le-mul_left a (le_of_lt h)) (mul-lt-mul_of_pos_right h (lt_of_le_of_lt zero-le h))

pub lt-of-sq : {a b : ℕ} → a * a < b * b → a < b
lt-of-sq h = lt_of_not-le (λ g. not-le_of_lt h (sq-le g))

-- ---- the whole part of a root: a is at most that where a * a ≤ n, and above it where n < a * a
pub root_ge : {n q : ℕ} (a : ℕ) → IsRoot n q → a * a ≤ n → a ≤ q
root_ge {n} {q} a r h = let l : a < q + 1 = lt-of-sq (lt_of_le_of_lt h r.high) in omega arith

pub root-lt : {n q : ℕ} (a : ℕ) → IsRoot n q → n < a * a → q < a
root-lt a r h = lt-of-sq (lt_of_le_of_lt r.low h)

-- ---- the square of a sum: four times the product, and the square of how far the two are apart
abbrev pub gap : ℕ → ℕ → ℕ
gap a b = a - b + (b - a)

pub sum-square : (a b : ℕ) → (a + b) * (a + b) ≡ 4 * (a * b) + gap a b * gap a b
sum-square a b = elim (side a b) [ inl h ↦ apart a (b - a) b (gap a b) (omega arith) (omega arith) | inr h ↦ omega (arith, apart b (a - b) a (gap a b) (omega arith) (omega arith)) ]
  where
    apart : (x t y g : ℕ) → y ≡ x + t → g ≡ t → (x + y) * (x + y) ≡ 4 * (x * y) + g * g
    apart x t y g e f = rw (e, f) (omega arith)
