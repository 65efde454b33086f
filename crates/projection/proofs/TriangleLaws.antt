-- A lower triangle whose rows are made new one after another, each from its beginning to the diagonal, and each number of the one that stood there. Assumes nothing.
use Prim.Native.Nat.{ℕ, ◌+◌, ◌-◌, ◌≤◌, ◌<◌}
use native.Mathlib.Nat.{zero-add, add-zero, sub-zero, not-suc-le-zero}
use native.Mathlib.Omega.{arith}
use mathlib.Core.Path.{◌≡◌, ap, ◌∙◌}
use mathlib.Core.Logic.{⊎_elim}
use mathlib.Core.List.{List}
use lib.ListN.{length}
use lib.Ieee.{Float, nan}
use Rattle.floats.specs.Words.{◌‼◌}
use Rattle.floats.specs.Tables.{table, triangle, half, part, with_part}
use Rattle.floats.proofs.ListLaws.{length_part, get_d_part}
use Rattle.floats.proofs.TableLaws.{length-table, get_d-table, table_same}
use Rattle.floats.proofs.HalfLaws.{triangle-more, triangle-apart, half-low, half-of, rows_to, rows-part}

-- a triangle of one number
pub half-fill : (x : Float) (n : ℕ) → table (λ p. x) (triangle n) ≡ half (λ i j. x) n
half-fill x n =
    half-of (λ i j. x) n (table (λ p. x) (triangle n)) (length-table _ (triangle n))
    (λ i j h l. half-low (table (λ p. x) (triangle n)) i j l ∙ get_d-table (λ p. x) (triangle n) (triangle i + j) nan (omega (arith, triangle-apart h)))

-- row i as it is lent, and as a function that is lent it leaves it
module _ (i start : ℕ) (a : List Float) (e : triangle (i + 1) ≤ length a) (p : start ≡ triangle i + 0) where
  pub row_within : start + (i + 1) ≤ length a
  row_within = omega (arith, triangle-more i)

  pub row-wide : length (part start (start + (i + 1)) a) ≡ i + 1
  row-wide = length_part a {a = start} {e = start + (i + 1)} (omega arith) row_within ∙ omega arith

  pub row-lent : (g : ℕ → Float → Float)
      → with_part start (start + (i + 1)) a (table (λ j. g j (part start (start + (i + 1)) a ‼ j)) (length (part start (start + (i + 1)) a)))
      ≡ with_part (triangle i) (triangle i + (i + 1)) a (table (λ c. g c (a ‼ (triangle i + c))) (i + 1))
  row-lent g =
      let z : start ≡ triangle i = omega arith in
      ap (with_part start (start + (i + 1)) a)
      (ap (table (λ j. g j (part start (start + (i + 1)) a ‼ j))) row-wide
      ∙ table_same _ _ (i + 1) (λ j b. ap (g j) (get_d_part a {a = start} {e = start + (i + 1)} (omega arith) row_within j nan (omega arith))))
      ∙ rw z

-- row i made new
pub row_new : (n : ℕ) (new old : ℕ → ℕ → Float) (i : ℕ) (g : ℕ → Float → Float) → i < n → ((c : ℕ) → c ≤ i → g c (old i c) ≡ new i c)
    → with_part (triangle i) (triangle i + (i + 1)) (rows_to n new old i) (table (λ c. g c (rows_to n new old i ‼ (triangle i + c))) (i + 1)) ≡ rows_to n new old (i + 1)
row_new n new old i g h same =
    simp (add-zero, zero-add, sub-zero) at
    (rows-part n new old i h {lo = 0} {hi = i + 1} g (omega arith) (omega arith) (λ c b d. let z : c - 0 ≡ c = omega arith in rw z (same c (omega arith)))
    (λ c q o. ⊎_elim (λ b. absurd (not-suc-le-zero b)) (λ (b : i + 1 ≤ c). absurd (omega arith)) o))
