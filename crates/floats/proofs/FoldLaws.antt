-- std's `fold` over a run is `turns`, a turn for each number, and a sum is the fold that adds: so a chain that ends in `fold` gives one. Assumes nothing.
use Rattle.std.proofs.Common.{◌≡◌, ℕ, zero, suc, ◌+◌, ◌≤◌, min, List, [], ◌∷◌, length, get_or, Float, refl, sym, ap, ◌∙◌, arith}
use Rattle.std.proofs.lemmas.Slice.Zip.{get_or-zip, length-zip}
use Rattle.std.specs.List.{fold, zip}
use Rattle.std.specs.Float.{nan}
use Rattle.floats.specs.Words.{◌⊕◌, ◌⊗◌, ◌‼◌, minus_zero}
use Rattle.floats.specs.Sums.{sum_of, sum_products}
use Rattle.floats.specs.Tables.{part}
use Rattle.floats.specs.Turns.{turns}
use Rattle.floats.proofs.ListLaws.{sum_same, length_part, get_d_part}

-- the first turn first
pub turns-first : {A : Type 0} (step : ℕ → A → A) (n : ℕ) (s : A) → turns (suc n) step s ≡ turns n (λ k. step (suc k)) (step 0 s)
unfolding turns
turns-first step zero s = refl
turns-first step (suc n) s = ap (step (suc n)) (turns-first step n s)

pub fold-turns : {A B : Type 0} (f : B → A → B) (d : A) (xs : List A) (b : B) → fold f b xs ≡ turns (length xs) (λ t s. f s (get_or xs t d)) b
unfolding turns
fold-turns f d [] b = refl
fold-turns f d (x ∷ xs) b = fold-turns f d xs (f b x) ∙ sym (turns-first (λ t s. f s (get_or (x ∷ xs) t d)) (length xs) b)

sum-turns : (f : ℕ → Float) (n : ℕ) → sum_of n f ≡ turns n (λ t s. s ⊕ f t) minus_zero
unfolding turns sum_of
sum-turns f zero = refl
sum-turns f (suc n) = ap (λ s. s ⊕ f n) (sum-turns f n)

-- what a fold that adds g of each makes
pub fold-sum : {A : Type 0} (g : A → Float) (d : A) (xs : List A) → fold (λ s x. s ⊕ g x) minus_zero xs ≡ sum_of (length xs) (λ t. g (get_or xs t d))
fold-sum g d xs = fold-turns (λ s x. s ⊕ g x) d xs minus_zero ∙ sym (sum-turns (λ t. g (get_or xs t d)) (length xs))

-- over two runs side by side
pub fold-products : (xs ys : List Float) → fold (λ s p. s ⊕ p.0 ⊗ p.1) minus_zero (zip xs ys) ≡ sum_of (min (length xs) (length ys)) (λ t. xs ‼ t ⊗ ys ‼ t)
fold-products xs ys =
    fold-sum {A = Float × Float} (λ p. p.0 ⊗ p.1) (nan, nan) (zip xs ys)
    ∙ ap (λ n. sum_of n (λ t. (get_or (zip xs ys) t (nan, nan)).0 ⊗ (get_or (zip xs ys) t (nan, nan)).1)) (length-zip xs ys)
    ∙ sum_same (min (length xs) (length ys)) _ _ (λ t l. let e = get_or-zip xs ys t (nan, nan) (omega arith) (omega arith) in rw e refl)

pub fold-stretches : (xs ys : List Float) (a b n : ℕ) → a + n ≤ length xs → b + n ≤ length ys
    → fold (λ s p. s ⊕ p.0 ⊗ p.1) minus_zero (zip (part a (a + n) xs) (part b (b + n) ys)) ≡ sum_products xs a ys b n
fold-stretches xs ys a b n h k =
    let l : length (part a (a + n) xs) ≡ n = length_part xs {a = a} {e = a + n} (omega arith) h ∙ omega arith in
    let m : length (part b (b + n) ys) ≡ n = length_part ys {a = b} {e = b + n} (omega arith) k ∙ omega arith in
    let z : min (length (part a (a + n) xs)) (length (part b (b + n) ys)) ≡ n = omega arith in
    fold-products (part a (a + n) xs) (part b (b + n) ys)
    ∙ ap (λ i. sum_of i (λ t. part a (a + n) xs ‼ t ⊗ part b (b + n) ys ‼ t)) z
    ∙ sum_same n _ _ (λ t i. rw (get_d_part xs {a = a} {e = a + n} (omega arith) h t nan (omega arith), get_d_part ys {a = b} {e = b + n} (omega arith) k t nan (omega arith)))
