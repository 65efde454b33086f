-- Digits of numbers. A text of digits reads back as its number, a decimal number has no digit too many, and no number of 64 bits has more than 20. Assumes nothing.
use Prim.Native.Nat.{ℕ, zero, suc, ◌+◌, ◌-◌, ◌*◌, ◌/◌, ◌%◌, ◌^◌, ◌≤◌, ◌<◌}
use native.Mathlib.Nat.{pow-zero, pow-succ', lt_of_lt_of_le, mod-one, mod-lt, mod-eq_of_lt, div-lt_iff_lt-mul, mul_comm, one-le-pow, le_trans, mul-le-mul_left, mul-div-le}
use native.Mathlib.Omega.{arith}
use mathlib.Core.Path.{◌≡◌, refl, sym, ap, ◌∙◌}
use mathlib.Core.Bool.{Bool, true, false, cond}
use mathlib.Core.List.{List, [], ◌∷◌, ◌++◌}
use lib.Arith.{mod-mul}
use lib.Dec.{ltb, lit<, lit≤}
use lib.ListN.{length, length-append}
use borrow.Author.Tests.{lt-ltb, le-ltb, ltb-true, ltb-false}
use Rattle.lines.specs.Lines.{digit_of, digits, width_to, width_of, decimal_of, hex_of}

-- ---- how many digits

-- a number of two digits or more has room for a second one
pub second-digit : (m : ℕ) {r : ℕ} → 10 ≤ r → r < 10 ^ suc m → 0 < m
second-digit zero h l = omega arith
second-digit (suc m) h l = omega arith

-- its tenth part has one digit less
pub tenth-below : (m : ℕ) {r : ℕ} → r < 10 ^ suc m → r / 10 < 10 ^ m
tenth-below m {r} l = (div-lt_iff_lt-mul (lit< tt)).1 (rw (mul_comm (10 ^ m) 10, ← pow-succ' 10 m) l)

pub width_one : (m : ℕ) {r : ℕ} → r < 10 → width_to m r ≡ 1
unfolding width_to
width_one zero h = refl
width_one (suc m) h = rw (lt-ltb _ _ h)

pub width-more : (m : ℕ) {r : ℕ} → 10 ≤ r → width_to (suc m) r ≡ suc (width_to m (r / 10))
unfolding width_to
width-more m h = rw (le-ltb _ _ h)

-- as many as its logarithm and one
pub width-log : (m k : ℕ) {n : ℕ} → k ≤ m → 10 ^ k ≤ n → n < 10 * 10 ^ k → width_to m n ≡ suc k
width-log m zero h l u = width_one m (omega (arith, u))
width-log zero (suc k) h l u = absurd (omega arith)
width-log (suc m) (suc k) {n} h l u =
    let ten : 10 ≤ n = omega (arith, l, pow-succ' 10 k, one-le-pow k 10 (lit≤ tt)) in
    let from : 10 ^ k ≤ n / 10 = omega (arith, l, pow-succ' 10 k) in
    let below : n / 10 < 10 * 10 ^ k = omega (arith, u, pow-succ' 10 k) in
    width-more m ten ∙ ap suc (width-log m k (omega arith) from below)

pub length_digits : (b k n : ℕ) → length (digits b k n) ≡ k
unfolding digits
length_digits b zero n = refl
length_digits b (suc k) n = ap suc (length_digits b k n)

-- with one byte behind them
pub length-word : (b k n d : ℕ) → length (digits b k n ++ (d ∷ [])) ≡ k + 1
length-word b k n d = length-append (digits b k n) (d ∷ []) ∙ rw (length_digits b k n)

-- ---- what digits say

-- the number of a digit's character, and of a text of digits to the base b
abbrev pub worth : ℕ → ℕ
worth c = cond (ltb c 58) (c - 48) (c - 87)

unfoldable pub value : ℕ → List ℕ → ℕ
value b [] = 0
value b (c ∷ cs) = worth c * b ^ length cs + value b cs

worth-digit : {d : ℕ} → d < 16 → worth (digit_of d) ≡ d
worth-digit {d} h = go (ltb d 10) refl
  where
    go : (b : Bool) → ltb d 10 ≡ b → worth (cond b (48 + d) (87 + d)) ≡ d
    go true e = let l = ltb-true d 10 e in let p : 48 + d < 58 = omega arith in rw (lt-ltb _ _ p) (omega arith)
    go false e = let p : 58 ≤ 87 + d = omega arith in rw (le-ltb _ _ p) (omega arith)

pub digits_value : (b : ℕ) → 0 < b → b ≤ 16 → (k n : ℕ) → value b (digits b k n) ≡ n % b ^ k
unfolding digits value
digits_value b p q zero n = rw pow-zero (sym (mod-one n))
digits_value b p q (suc k) n =
    rw (worth-digit {d = n / b ^ k % b} (lt_of_lt_of_le (mod-lt (n / b ^ k) p) q), length_digits b k n, digits_value b p q k n, pow-succ') (sym (mod-mul n p (one-le-pow k b p)))

-- so a number of 64 bits is what its decimal digits say, and its 16 hex digits
pub hex-value : (n : ℕ) → n < 2 ^ 64 → value 16 (hex_of n) ≡ n
hex-value n h = digits_value 16 (lit< tt) (lit≤ tt) 16 n ∙ mod-eq_of_lt h

-- where `most` digits more hold n, its width holds it, and no narrower one does
width-holds : (most n : ℕ) → n < 10 ^ suc most → n < 10 ^ width_to most n
unfolding width_to
width-holds zero n h = h
width-holds (suc most) n h = go (ltb n 10) refl (width-holds most (n / 10) (tenth-below (suc most) h))
  where
    go : (b : Bool) → ltb n 10 ≡ b → n / 10 < 10 ^ width_to most (n / 10) → n < 10 ^ cond b 1 (suc (width_to most (n / 10)))
    go true e l = ltb-true n 10 e
    go false e l = rw (pow-succ' 10 (width_to most (n / 10)), mul_comm 10 (10 ^ width_to most (n / 10))) ((div-lt_iff_lt-mul (lit< tt)).0 l)

pub decimal-value : (n : ℕ) → n < 2 ^ 64 → value 10 (decimal_of n) ≡ n
decimal-value n h = digits_value 10 (lit< tt) (lit≤ tt) (width_of n) n ∙ mod-eq_of_lt (width-holds 19 n (omega arith))

-- one digit or more, and no leading zero: of a number above 0 the highest digit counts
width_some : (most n : ℕ) → 1 ≤ width_to most n
unfolding width_to
width_some zero n = lit≤ tt
width_some (suc most) n = go (ltb n 10)
  where
    go : (b : Bool) → 1 ≤ cond b 1 (suc (width_to most (n / 10)))
    go true = lit≤ tt
    go false = omega arith

pub width-least : (most n : ℕ) → 0 < n → 10 ^ (width_to most n - 1) ≤ n
unfolding width_to
width-least zero n h = h
width-least (suc most) n h = go (ltb n 10) refl (λ p. width-least most (n / 10) p)
  where
    tens : (w : ℕ) → 1 ≤ w → 10 ^ (w - 1) ≤ n / 10 → 10 ^ (suc w - 1) ≤ n
    tens w l k = let e : suc w - 1 ≡ suc (w - 1) = omega arith in rw (e, pow-succ') (le_trans (mul-le-mul_left 10 k) (mul-div-le n 10))

    go : (b : Bool) → ltb n 10 ≡ b → (0 < n / 10 → 10 ^ (width_to most (n / 10) - 1) ≤ n / 10) → 10 ^ (cond b 1 (suc (width_to most (n / 10))) - 1) ≤ n
    go true e rest = h
    go false e rest = let l = ltb-false n 10 e in tens (width_to most (n / 10)) (width_some most (n / 10)) (rest (omega arith))

-- `most` digits more than one at most
pub width-most : (most n : ℕ) → width_to most n ≤ suc most
unfolding width_to
width-most zero n = lit≤ tt
width-most (suc most) n = go (ltb n 10) (width-most most (n / 10))
  where
    go : (b : Bool) → width_to most (n / 10) ≤ suc most → cond b 1 (suc (width_to most (n / 10))) ≤ suc (suc most)
    go true l = omega arith
    go false l = omega arith
