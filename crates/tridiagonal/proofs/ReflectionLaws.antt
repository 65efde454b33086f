-- What is known of a reflection: q, from S v; and a reflection keeps a matrix symmetric to the bit, and its length. Assumes nothing.
use Prim.Native.Nat.{ℕ, ◌+◌, ◌*◌, ◌-◌, ◌<◌}
use native.Mathlib.Nat.{zero-add}
use native.Mathlib.Omega.{arith}
use mathlib.Core.Path.{◌≡◌, refl, sym, ◌∙◌}
use mathlib.Core.Bool.{Bool, true, false, cond, ◌&&◌, false≢true}
use mathlib.Core.List.{List}
use lib.Dec.{ltb, eqb}
use lib.ListN.{length}
use lib.Ieee.{Float, eq}
use borrow.Author.Tests.{ltb-true, eqb-true}
use Rattle.floats.specs.Words.{◌⊖◌, ◌⊗◌, ◌⊘◌, ◌‼◌, plus_zero, two}
use Rattle.floats.specs.Sums.{sum_squares, sum_products}
use Rattle.floats.specs.Tables.{table}
use Rattle.floats.specs.Turns.{turns}
use Rattle.floats.proofs.TurnLaws.{turns-keep}
use Rattle.floats.proofs.ListLaws.{sum_same}
use Rattle.floats.proofs.TableLaws.{length-table}
use Rattle.floats.specs.Matrix.{Symmetric}
use Rattle.floats.proofs.MatrixLaws.{entry-square, length-square}
use Rattle.floats.proofs.Commutes.{sum-swap, product-swap}
use Rattle.tridiagonal.specs.Reflection.{column_of, norm_of, alpha_of, normal_of, image_of, correction_of, edge, block, reflected_entry, reflected, tridiagonal_of}

-- ---- q, from S v
pub correction-of : (v s p : List Float) (vv k : Float) → length s ≡ length v → p ≡ table (λ j. two ⊗ s ‼ j ⊘ vv) (length s) → k ≡ sum_products v 0 p 0 (length v)
    → table (λ j. p ‼ j ⊖ k ⊘ vv ⊗ v ‼ j) (length p) ≡ correction_of v s vv
unfolding correction_of
correction-of v s p vv k e f g =
    let o = length-table (λ j. two ⊗ s ‼ j ⊘ vv) (length v) in
    let r = sum_same (length v) (λ t. v ‼ (0 + t) ⊗ p ‼ (0 + t)) (λ t. v ‼ t ⊗ p ‼ t) (λ t l. rw zero-add) in
    rw (g, r, f, e, o)

-- ---- a reflection keeps a matrix symmetric
module _ (n c : ℕ) (a : List Float) (alpha : Float) (v q : List Float) where
  block-symmetric : Symmetric n a → (i j : ℕ) → i < n → j < n → block n c a v q i j ≡ block n c a v q j i
  block-symmetric s i j h k =
      rw (
        s i j h k,
        sum-swap (v ‼ (i - (c + 1)) ⊗ q ‼ (j - (c + 1))) (q ‼ (i - (c + 1)) ⊗ v ‼ (j - (c + 1))),
        product-swap (q ‼ (i - (c + 1))) (v ‼ (j - (c + 1))),
        product-swap (v ‼ (i - (c + 1))) (q ‼ (j - (c + 1))),
      )

  reflected-entry-symmetric : Symmetric n a → (i j : ℕ) → i < n → j < n → reflected_entry n c a alpha v q i j ≡ reflected_entry n c a alpha v q j i
  unfolding reflected_entry
  reflected-entry-symmetric s i j h k =
      rw (block-symmetric s i j h k, s i j h k, both (ltb c i) (ltb c j))
      (apart (eqb j c && ltb c i) (eqb i c && ltb c j) (edge c alpha i) (edge c alpha j) _
      (λ p r. let x = ltb-true c i (halves (eqb j c) (ltb c i) p).1 in let y = eqb-true i c (halves (eqb i c) (ltb c j) r).0 in omega arith))
    where
      both : (b d : Bool) → (b && d) ≡ (d && b)
      both true true = refl
      both true false = refl
      both false true = refl
      both false false = refl

      halves : (b d : Bool) → (b && d) ≡ true → (b ≡ true) × (d ≡ true)
      halves true d e = (refl, e)
      halves false d e = absurd (false≢true e)

      -- tests that never hold both may stand in either order
      apart : (b d : Bool) (x y z : Float) → (b ≡ true → d ≡ true → ⊥) → cond b x (cond d y z) ≡ cond d y (cond b x z)
      apart true true x y z e = absurd (e refl refl)
      apart true false x y z e = refl
      apart false d x y z e = refl

pub reflected-symmetric : (n c : ℕ) (a : List Float) → Symmetric n a → Symmetric n (reflected n c a)
unfolding reflected
reflected-symmetric n c a s =
    let x = column_of n c a in
    let v = normal_of x in
    let q = correction_of v (image_of n c a v) (sum_squares v) in
    either (eq (norm_of x) plus_zero) a _ s
    (either (eq (sum_squares v) plus_zero) a _ s
    (λ i j h k. entry-square n (reflected_entry n c a (alpha_of x) v q) i j h k ∙ reflected-entry-symmetric n c a (alpha_of x) v q s i j h k ∙ sym (entry-square n (reflected_entry n c a (alpha_of x) v q) j i k h)))
  where
    either : (b : Bool) (x y : List Float) → Symmetric n x → Symmetric n y → Symmetric n (cond b x y)
    either true x y p r = p
    either false x y p r = r

-- and so do any number of them
pub reflections-symmetric : (n k : ℕ) (a : List Float) → Symmetric n a → Symmetric n (turns k (reflected n) a)
reflections-symmetric n k a s = turns-keep (reflected n) (Symmetric n) k (λ c b l. reflected-symmetric n c b) a s

pub tridiagonal-symmetric : (n : ℕ) (a : List Float) → Symmetric n a → Symmetric n (tridiagonal_of n a)
tridiagonal-symmetric n a s = reflections-symmetric n (n - 2) a s

-- ---- and its length
reflected-long : (n c : ℕ) (a : List Float) → length a ≡ n * n → length (reflected n c a) ≡ n * n
unfolding reflected
reflected-long n c a e =
    let x = column_of n c a in
    let v = normal_of x in
    let q = correction_of v (image_of n c a v) (sum_squares v) in
    either (eq (norm_of x) plus_zero) a _ e (either (eq (sum_squares v) plus_zero) a _ e (length-square n (reflected_entry n c a (alpha_of x) v q)))
  where
    either : (b : Bool) (x y : List Float) → length x ≡ n * n → length y ≡ n * n → length (cond b x y) ≡ n * n
    either true x y p r = p
    either false x y p r = r

pub reflections-long : (n k : ℕ) (a : List Float) → length a ≡ n * n → length (turns k (reflected n) a) ≡ n * n
reflections-long n k a e = turns-keep (reflected n) (λ b. length b ≡ n * n) k (λ c b l. reflected-long n c b) a e

pub tridiagonal-long : (n : ℕ) (a : List Float) → length a ≡ n * n → length (tridiagonal_of n a) ≡ n * n
tridiagonal-long n a e = reflections-long n (n - 2) a e
