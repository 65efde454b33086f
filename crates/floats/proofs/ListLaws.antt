-- Index laws: counting down, rows of a matrix, parts of lists, sums whose terms agree. Assumes nothing.
use mathlib.Core.Path.{◌≡◌, refl}
use Prim.Native.Nat.{ℕ, zero, suc, ◌+◌, ◌*◌, ◌-◌, ◌≤◌, ◌<◌}
use native.Mathlib.Nat.{mul-le-mul_right, suc-mul}
use native.Mathlib.Omega.{arith}
use mathlib.Core.List.{List}
use lib.ListN.{length, take, drop, get_or, length-drop, length-append, length-take}
use lib.Seq.{take_all, length-take-le, get_or-drop, get_or-take}
use lib.Ieee.{Float}
use Rattle.floats.specs.Sums.{sum_of}
use Rattle.floats.specs.Tables.{part, with_part}

-- what is left to count, one turn on; and where nothing is left
pub sub-step : {j n : ℕ} → j < n → n - j ≡ suc (n - (j + 1))
sub-step h = omega arith

pub sub-none : {j n : ℕ} → n ≤ j → n - j ≡ 0
sub-none h = omega arith

-- row i of k rows of n ends within k * n
pub row_in : (n : ℕ) {i k : ℕ} → i < k → i * n + n ≤ k * n
row_in n {i} {k} h = rw suc-mul at (mul-le-mul_right n h)

module _ {A : Type 0} (l : List A) {a e : ℕ} (h : a ≤ e) (k : e ≤ length l) where
  pub length_part : length (part a e l) ≡ e - a
  length_part = length-take-le (e - a) (drop a l) (simp length-drop (omega arith))

  pub get_d_part : (i : ℕ) (d : A) → i < e - a → get_or (part a e l) i d ≡ get_or l (a + i) d
  get_d_part i d m = rw (get_or-take, get_or-drop)

  pub length-with_part : (ys : List A) → length ys ≡ e - a → length (with_part a e l ys) ≡ length l
  length-with_part ys m = simp (length-append, length-take, length-drop) (omega arith)

-- all from n on
pub tail-part : {A : Type 0} (n : ℕ) (l : List A) → take (length l - n) (drop n l) ≡ drop n l
tail-part n l = take_all (length l - n) (drop n l) (simp length-drop (omega arith))

-- terms that agree below n have the same sum
pub sum_same : (n : ℕ) (f g : ℕ → Float) → ((t : ℕ) → t < n → f t ≡ g t) → sum_of n f ≡ sum_of n g
unfolding sum_of
sum_same zero f g h = refl
sum_same (suc n) f g h = rw (sum_same n f g (λ t l. h t (omega arith)), h n (omega arith))
