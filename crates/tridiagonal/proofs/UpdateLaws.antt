-- From rows and stores to the definitions: S - (v q' + q v') row by row, column c, and the reflection they make. The one idea: the entries with j ≤ i are worked out as those of
-- the whole matrix are, and the reflections so far are symmetric, so their lower triangle says all of them. Assumes nothing.
use Prim.Native.Nat.{ℕ, ◌+◌, ◌-◌, ◌≤◌, ◌<◌}
use native.Mathlib.Omega.{arith}
use native.Mathlib.Decide.{ℕ_discrete}
use mathlib.Core.Path.{◌≡◌, refl, ap, sym, ◌∙◌}
use mathlib.Core.Logic.{⊎_elim}
use mathlib.Core.Bool.{Bool, true, false, cond, ◌&&◌}
use mathlib.Core.List.{List}
use lib.Dec.{ltb, eqb}
use lib.ListN.{length, set}
use lib.Ieee.{Float, eq, lt, neg}
use borrow.Author.Tests.{lt-ltb, le-ltb, eq-eqb, ne_eqb}
use Rattle.floats.specs.Words.{◌⊕◌, ◌⊖◌, ◌⊗◌, ◌‼◌, plus_zero}
use Rattle.floats.specs.Sums.{sum_squares}
use Rattle.floats.specs.Tables.{table, square, triangle, half, part, with_part}
use Rattle.floats.specs.Turns.{turns}
use Rattle.floats.specs.Matrix.{entry, half_entry, whole, half_of}
use Rattle.floats.proofs.TurnLaws.{turns-none, turns_more}
use Rattle.floats.proofs.MatrixLaws.{lt-or-le, entry-square}
use Rattle.floats.proofs.HalfLaws.{half-of, half-same, entry-half, entry_whole, length_whole, whole-symmetric, half-whole, whole-half, rows_to, rows-from, rows_all, rows-kernel, store-half}
use Rattle.roots.specs.Root.{sqrt_of}
use Rattle.tridiagonal.specs.Reflection.{below, column_of, image_of, correction_of, edge, block, reflected_entry, reflected}
use Rattle.tridiagonal.proofs.ReflectionLaws.{reflections-symmetric, reflections-long}

-- ---- S - (v q' + q v'), row by row
module _ (n c : ℕ) (a v q : List Float) where
  unfoldable pub updated : ℕ → ℕ → Float
  updated i j = cond (ltb c i && ltb c j) (block n c (whole n a) v q i j) (half_entry a i j)

  pub update-none : length a ≡ triangle n → a ≡ rows_to n updated (half_entry a) (c + 1 + 0)
  unfolding updated
  update-none e =
      let z : c + 1 + 0 ≡ c + 1 = omega arith in
      rw z (half-of (half_entry a) n a e (λ i j h k. refl) ∙ rows-from n updated (half_entry a) (c + 1) (λ r k l m. rw (le-ltb c r (omega arith))))

  pub update-row : (t start end : ℕ) → c + 1 < n → t < below n c → start ≡ triangle (c + 1 + t) + (c + 1) → end ≡ start + (t + 1)
      → with_part start end (rows_to n updated (half_entry a) (c + 1 + t))
      (table (λ j. part start end (rows_to n updated (half_entry a) (c + 1 + t)) ‼ j ⊖ (v ‼ t ⊗ q ‼ j ⊕ q ‼ t ⊗ v ‼ j)) (length (part start end (rows_to n updated (half_entry a) (c + 1 + t)))))
      ≡ rows_to n updated (half_entry a) (c + 1 + (t + 1))
  unfolding updated
  update-row t start end h l z u =
      let w : c + 1 + (t + 1) ≡ c + 1 + t + 1 = omega arith in
      let x : c + 1 + t - (c + 1) ≡ t = omega arith in
      rw w
      (rows-kernel n updated (half_entry a) (c + 1 + t) (omega arith) start end {lo = c + 1} {hi = c + 1 + t + 1} (λ j o. o ⊖ (v ‼ t ⊗ q ‼ j ⊕ q ‼ t ⊗ v ‼ j)) z (omega arith) (omega arith) (omega arith)
      (λ k b d. rw (lt-ltb c (c + 1 + t) (omega arith), lt-ltb c k (omega arith), x, entry_whole n a (c + 1 + t) k (omega arith) (omega arith)))
      (λ k b o. ⊎_elim (λ (d : k < c + 1). rw (lt-ltb c (c + 1 + t) (omega arith), le-ltb c k (omega arith))) (λ (d : c + 1 + t + 1 ≤ k). absurd (omega arith)) o))

  pub update_all : c + 1 < n → rows_to n updated (half_entry a) (c + 1 + below n c) ≡ half (λ i j. cond (ltb c i && ltb c j) (block n c (whole n a) v q i j) (half_entry a i j)) n
  unfolding updated
  update_all h = let z : c + 1 + below n c ≡ n = omega arith in rw z (rows_all n updated (half_entry a))

-- ---- column c: zeros from row c + 2 up to row i, and then alpha in row c + 1
module _ (n c : ℕ) (f : ℕ → ℕ → Float) where
  unfoldable pub cleared : ℕ → ℕ → ℕ → Float
  cleared i r k = cond (eqb k c && (ltb (c + 1) r && ltb r i)) plus_zero (f r k)

  pub cleared-none : half f n ≡ half (cleared (c + 2)) n
  unfolding cleared
  cleared-none =
      half-same n f (cleared (c + 2))
      (λ r k h l. ⊎_elim (λ (b : c + 1 < r). rw (le-ltb r (c + 2) (omega arith), lt-ltb (c + 1) r b) (go (eqb k c) (f r k))) (λ (b : r ≤ c + 1). rw (le-ltb (c + 1) r b) (go (eqb k c) (f r k))) (lt-or-le (c + 1) r))
    where
      go : (b : Bool) (y : Float) → y ≡ cond (b && false) plus_zero y
      go true y = refl
      go false y = refl

  pub cleared_more : (i : ℕ) → c + 2 ≤ i → i < n → set (half (cleared i) n) (triangle i + c) plus_zero ≡ half (cleared (i + 1)) n
  unfolding cleared
  cleared_more i h k =
      ap (set (half (cleared i) n) (triangle i + c)) stored
      ∙ store-half n (cleared i) (cleared (i + 1)) i c k (omega arith) others
    where
      stored : plus_zero ≡ cleared (i + 1) i c
      stored = rw (eq-eqb c c refl, lt-ltb (c + 1) i (omega arith), lt-ltb i (i + 1) (omega arith))

      others : (r j : ℕ) → r < n → j ≤ r → ((r ≡ i) × (j ≡ c) → ⊥) → cleared i r j ≡ cleared (i + 1) r j
      others r j p q e = pick (ℕ_discrete j c)
        where
          pick : Dec (j ≡ c) → cleared i r j ≡ cleared (i + 1) r j
          pick (no z) = rw (ne_eqb j c z)
          pick (yes z) =
              ⊎_elim (λ (b : r < i). rw (lt-ltb r i b, lt-ltb r (i + 1) (omega arith)))
              (λ (b : i ≤ r). ⊎_elim
              (λ (d : r < i + 1). absurd (e (omega arith, z)))
              (λ (d : i + 1 ≤ r). rw (le-ltb r i b, le-ltb r (i + 1) d))
              (lt-or-le r (i + 1)))
              (lt-or-le r i)

  pub cleared-all : (alpha : Float) → c + 1 < n → set (half (cleared n) n) (triangle (c + 1) + c) alpha ≡ half (λ i j. cond (eqb j c && ltb c i) (edge c alpha i) (f i j)) n
  unfolding cleared
  cleared-all alpha h =
      ap (set (half (cleared n) n) (triangle (c + 1) + c)) stored
      ∙ store-half n (cleared n) (λ i j. cond (eqb j c && ltb c i) (edge c alpha i) (f i j)) (c + 1) c h (omega arith) others
    where
      stored : alpha ≡ cond (eqb c c && ltb c (c + 1)) (edge c alpha (c + 1)) (f (c + 1) c)
      stored = rw (eq-eqb c c refl, lt-ltb c (c + 1) (omega arith), eq-eqb (c + 1) (c + 1) refl)

      others : (r j : ℕ) → r < n → j ≤ r → ((r ≡ c + 1) × (j ≡ c) → ⊥) → cleared n r j ≡ cond (eqb j c && ltb c r) (edge c alpha r) (f r j)
      others r j p q e = pick (ℕ_discrete j c)
        where
          pick : Dec (j ≡ c) → cleared n r j ≡ cond (eqb j c && ltb c r) (edge c alpha r) (f r j)
          pick (no z) = rw (ne_eqb j c z)
          pick (yes z) =
              ⊎_elim (λ (b : c + 1 < r). rw (lt-ltb (c + 1) r b, lt-ltb c r (omega arith), lt-ltb r n p, eq-eqb j c z, ne_eqb r (c + 1) (λ y. omega arith)))
              (λ (b : r ≤ c + 1). ⊎_elim
              (λ (d : c < r). absurd (e (omega arith, z)))
              (λ (d : r ≤ c). rw (eq-eqb j c z, le-ltb (c + 1) r b, le-ltb c r d))
              (lt-or-le c r))
              (lt-or-le (c + 1) r)

-- ---- block and column together; row c beyond the diagonal is not kept
pub turn-of : (n c : ℕ) (a b v q : List Float) (alpha : Float)
    → b ≡ half (λ i j. cond (ltb c i && ltb c j) (block n c (whole n a) v q i j) (half_entry a i j)) n
    → half (λ i j. cond (eqb j c && ltb c i) (edge c alpha i) (half_entry b i j)) n ≡ half (reflected_entry n c (whole n a) alpha v q) n
unfolding reflected_entry
turn-of n c a b v q alpha e =
    half-same n (λ i j. cond (eqb j c && ltb c i) (edge c alpha i) (half_entry b i j)) (reflected_entry n c (whole n a) alpha v q)
    (λ i j k l. rw (e, entry-half (λ i j. cond (ltb c i && ltb c j) (block n c (whole n a) v q i j) (half_entry a i j)) n i j k l, entry_whole n a i j k (omega arith))
    (⊎_elim (λ (b : c < j). rw (ne_eqb i c (λ z. omega arith))) (λ (b : j ≤ c). rw (le-ltb c j b, never (eqb i c))) (lt-or-le c j)))
  where
    never : (b : Bool) → (b && false) ≡ false
    never true = refl
    never false = refl

-- ---- the three ways a reflection goes, from what was worked out on the way
module _ (n c : ℕ) (a x : List Float) (s norm alpha : Float) (l : length a ≡ triangle n) (p : x ≡ column_of n c (whole n a)) (q : s ≡ sum_squares x) (r : norm ≡ sqrt_of s) where
  pub still : eq norm plus_zero ≡ true → a ≡ half_of n (reflected n c (whole n a))
  unfolding reflected
  still e = rw (← p, ← q, ← r, e) (sym (half-whole n a l))

  module _ (e : eq norm plus_zero ≡ false) (t : alpha ≡ cond (lt plus_zero (x ‼ 0)) (neg norm) norm) (vv : Float) (u : vv ≡ sum_squares (set x 0 (x ‼ 0 ⊖ alpha))) where
    pub flat : eq vv plus_zero ≡ true → a ≡ half_of n (reflected n c (whole n a))
    unfolding reflected
    flat f = rw (← p, ← q, ← r, e, ← t, ← u, f) (sym (half-whole n a l))

    pub turned : eq vv plus_zero ≡ false
        → half (reflected_entry n c (whole n a) alpha (set x 0 (x ‼ 0 ⊖ alpha)) (correction_of (set x 0 (x ‼ 0 ⊖ alpha)) (image_of n c (whole n a) (set x 0 (x ‼ 0 ⊖ alpha))) vv)) n ≡ half_of n (reflected n c (whole n a))
    unfolding reflected
    turned f =
        let v = set x 0 (x ‼ 0 ⊖ alpha) in
        let new = reflected_entry n c (whole n a) alpha v (correction_of v (image_of n c (whole n a) v) vv) in
        rw (← p, ← q, ← r, e, ← t, ← u, f) (half-same n new (entry n (square new n)) (λ i j h k. sym (entry-square n new i j h (omega arith))))

-- ---- one reflection after another
module _ (n : ℕ) (a : List Float) where
  pub reflections-none : length a ≡ triangle n → a ≡ half_of n (turns 0 (reflected n) (whole n a))
  reflections-none e = rw (turns-none (reflected n) (whole n a)) (sym (half-whole n a e))

  pub reflections-more : (c : ℕ) → half_of n (reflected n c (whole n (half_of n (turns c (reflected n) (whole n a))))) ≡ half_of n (turns (c + 1) (reflected n) (whole n a))
  reflections-more c =
      rw (whole-half n (turns c (reflected n) (whole n a)) (reflections-long n c (whole n a) (length_whole n a)) (reflections-symmetric n c (whole n a) (whole-symmetric n a)), turns_more (reflected n) c (whole n a))
