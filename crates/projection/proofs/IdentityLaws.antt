-- 1 added along the diagonal, one row after another. Assumes nothing.
use Prim.Native.Nat.{ℕ, ◌+◌, ◌≤◌, ◌<◌}
use native.Mathlib.Omega.{arith}
use mathlib.Core.Path.{◌≡◌, refl, ap, sym, ◌∙◌}
use mathlib.Core.Logic.{⊎_elim}
use mathlib.Core.Bool.{cond}
use lib.Dec.{ltb, eqb}
use lib.ListN.{set}
use lib.Ieee.{Float}
use borrow.Author.Tests.{lt-ltb, le-ltb, eq-eqb, ne_eqb}
use Rattle.floats.specs.Words.{◌⊕◌, ◌‼◌, one}
use Rattle.floats.specs.Tables.{triangle}
use Rattle.floats.proofs.MatrixLaws.{lt-or-le}
use Rattle.floats.proofs.HalfLaws.{rows_to, row_old, store-half}

module _ (old : ℕ → ℕ → Float) where
  unfoldable pub identified : ℕ → ℕ → Float
  identified i j = cond (eqb i j) (one ⊕ old i j) (old i j)

  pub identity-row : (n i : ℕ) → i < n → set (rows_to n identified old i) (triangle i + i) (one ⊕ rows_to n identified old i ‼ (triangle i + i)) ≡ rows_to n identified old (i + 1)
  unfolding rows_to identified
  identity-row n i h =
      ap (λ x. set (rows_to n identified old i) (triangle i + i) (one ⊕ x)) (row_old n identified old i i h (omega arith))
      ∙ ap (set (rows_to n identified old i) (triangle i + i)) stored
      ∙ store-half n (λ r c. cond (ltb r i) (identified r c) (old r c)) (λ r c. cond (ltb r (i + 1)) (identified r c) (old r c)) i i h (omega arith) others
    where
      stored : one ⊕ old i i ≡ cond (ltb i (i + 1)) (identified i i) (old i i)
      stored = rw (lt-ltb i (i + 1) (omega arith), eq-eqb i i refl)

      others : (r c : ℕ) → r < n → c ≤ r → ((r ≡ i) × (c ≡ i) → ⊥) → cond (ltb r i) (identified r c) (old r c) ≡ cond (ltb r (i + 1)) (identified r c) (old r c)
      others r c p q e =
          ⊎_elim (λ (b : r < i). rw (lt-ltb r i b, lt-ltb r (i + 1) (omega arith)))
          (λ (b : i ≤ r). ⊎_elim
          (λ (d : r < i + 1). let z : r ≡ i = omega arith in rw (le-ltb r i b, lt-ltb r (i + 1) d, ne_eqb r c (λ y. e (z, sym y ∙ z))))
          (λ (d : i + 1 ≤ r). rw (le-ltb r i b, le-ltb r (i + 1) d))
          (lt-or-le r (i + 1)))
          (lt-or-le r i)
