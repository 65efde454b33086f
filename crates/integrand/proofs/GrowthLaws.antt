-- A rounded product grows with a factor and a rounded square with its root: so where a size times the largest of several numbers above 0, squared, is below some number, it is so at each of
-- them. What is not finite has no square below any number. Assumes nothing.
use mathlib.Core.Path.{◌≡◌, refl, sym, ap, ◌∙◌, subst}
use mathlib.Core.Bool.{Bool, true, false, not, cond, true≢false}
use Prim.Native.Nat.{ℕ, ◌*◌, ◌≤◌}
use native.Mathlib.Nat.{le_trans, le_of_eq, mul_comm, mul_assoc, mul_left_comm, mul-le-mul, mul-le-mul_right, mul-pos}
use lib.IntN.{ℤ}
use lib.Dec.{T, eqb}
use lib.Ieee.{Float, nan, inf, fin, binary64, up, down, unlike, neg, mul, lt, eq, le, is_nan, of_bits}
use lib.Ieee.Fits.{down_pos}
use lib.Ieee.Order.{round_mono}
use lib.Ieee.Scale.{finite}
use Rattle.floats.specs.Words.{◌⊗◌, square_of, plus_zero}
use Rattle.floats.specs.Signs.{minus}
use Rattle.floats.proofs.Commutes.{product-swap}
use Rattle.floats.proofs.Negatives.{product-plus, square-plus}
use Rattle.floats.proofs.OrderLaws.{cross-of, le-lt, up-to-minus, from_zero}

-- products grow with a factor, and squares with their root
grows : (a b x y p q : ℕ) → x * q ≤ y * p → a * x * (b * q) ≤ a * y * (b * p)
grows a b x y p q h =
    let l : a * x * (b * q) ≡ x * q * (a * b) = simp (mul_assoc, mul_comm, mul_left_comm) in
    let r : a * y * (b * p) ≡ y * p * (a * b) = simp (mul_assoc, mul_comm, mul_left_comm) in
    le_trans (le_of_eq l) (le_trans (mul-le-mul_right (a * b) h) (le_of_eq (sym r)))

squared : (x y p q : ℕ) → x * q ≤ y * p → x * x * (q * q) ≤ y * y * (p * p)
squared x y p q h =
    let l : x * x * (q * q) ≡ x * q * (x * q) = simp (mul_assoc, mul_left_comm) in
    let r : y * y * (p * p) ≡ y * p * (y * p) = simp (mul_assoc, mul_left_comm) in
    le_trans (le_of_eq l) (le_trans (mul-le-mul h h) (le_of_eq (sym r)))

-- what is not finite stays so in a product, and its square is below nothing
stays : (x y : Float) → finite x ≡ false → finite (x ⊗ y) ≡ false
unfolding mul
stays nan y h = refl
stays (inf s) nan h = refl
stays (inf s) (inf t) h = refl
stays (inf s) (fin t n d) h = go (eqb n 0)
  where
    go : (b : Bool) → finite (cond b nan (inf (unlike s t))) ≡ false
    go true = refl
    go false = refl
stays (fin s m e) y h = absurd (true≢false h)

below_none : (r : Float) → T (lt (inf false) r) → ⊥
unfolding lt
below_none nan k = k
below_none (inf t) k = k
below_none (fin t n d) k = k

square-finite : (x r : Float) → finite x ≡ false → T (lt (square_of x) r) → ⊥
unfolding mul
square-finite nan r h k = unfold lt in k
square-finite (inf true) r h k = below_none r k
square-finite (inf false) r h k = below_none r k
square-finite (fin s m e) r h k = absurd (true≢false h)

-- a product with a NaN is near nothing
pub far-nan : (w x r : Float) → is_nan x ≡ true → T (lt (square_of (w ⊗ x)) r) → ⊥
unfolding is_nan
far-nan w nan r h k = square-finite (w ⊗ nan) r (ap finite (product-swap w nan) ∙ stays nan w refl) k
far-nan w (inf s) r h k = true≢false (sym h)
far-nan w (fin s m e) r h k = true≢false (sym h)

-- a number with the sign plus whose square is below some number has a negative with the sign minus
pub neg-minus : (x r : Float) → minus x ≡ false → T (lt (square_of x) r) → minus (neg x) ≡ true
unfolding minus neg
neg-minus nan r h k = absurd (square-finite nan r refl k)
neg-minus (inf s) r h k = ap not h
neg-minus (fin s m e) r h k = ap not h

-- of numbers with the sign plus, the smaller one's square is below r if the larger one's is
squares : (x y r : Float) → minus x ≡ false → minus y ≡ false → T (le x y) → T (lt (square_of y) r) → T (lt (square_of x) r)
unfolding minus le lt eq mul
squares nan y r P Q h k = absurd h
squares (inf true) y r P Q h k = absurd (true≢false P)
squares (inf false) nan r P Q h k = absurd h
squares (inf false) (inf true) r P Q h k = absurd h
squares (inf false) (inf false) r P Q h k = k
squares (inf false) (fin t n d) r P Q h k = absurd h
squares (fin true m e) y r P Q h k = absurd (true≢false P)
squares (fin false m e) nan r P Q h k = absurd h
squares (fin false m e) (inf t) r P Q h k = absurd (square-finite (inf t) r refl k)
squares (fin false m e) (fin true n d) r P Q h k = absurd (true≢false Q)
squares (fin false m e) (fin false n d) r P Q h k =
    le-lt (square_of (fin false m e)) (square_of (fin false n d)) r (square-plus (fin false m e)) (square-plus (fin false n d))
    (round_mono binary64 (m * up e * (m * up e)) (down e * down e) (n * up d * (n * up d)) (down d * down d) (mul-pos (down_pos e) (down_pos e)) (mul-pos (down_pos d) (down_pos d))
    (squared (m * up e) (n * up d) (down e) (down d) (cross-of (m * up e * down d) (n * up d * down e) h))) k

-- a rounded product grows with a factor
product-grows : (m n j : ℕ) (e d c : ℤ) → T (le (fin false n d) (fin false j c)) → T (le (fin false m e ⊗ fin false n d) (fin false m e ⊗ fin false j c))
unfolding mul
product-grows m n j e d c h =
    round_mono binary64 (m * up e * (n * up d)) (down e * down d) (m * up e * (j * up c)) (down e * down c) (mul-pos (down_pos e) (down_pos d)) (mul-pos (down_pos e) (down_pos c))
    (grows (m * up e) (down e) (n * up d) (j * up c) (down d) (down c) (cross-of (n * up d * down c) (j * up c * down d) (unfold le lt eq in h)))

-- a size times u, squared, is below r for every u above 0 up to v, if it is at v
pub below-largest : (a u v r : Float) → minus a ≡ false → lt plus_zero u ≡ true → le u v ≡ true → T (lt (square_of (a ⊗ v)) r) → T (lt (square_of (a ⊗ u)) r)
below-largest nan u v r A U h k = absurd (square-finite (nan ⊗ v) r (stays nan v refl) k)
below-largest (inf s) u v r A U h k = absurd (square-finite (inf s ⊗ v) r (stays (inf s) v refl) k)
below-largest (fin s m e) u nan r A U h k = absurd (square-finite (fin s m e ⊗ nan) r (ap finite (product-swap (fin s m e) nan) ∙ stays nan (fin s m e) refl) k)
below-largest (fin s m e) u (inf t) r A U h k = absurd (square-finite (fin s m e ⊗ inf t) r (ap finite (product-swap (fin s m e) (inf t)) ∙ stays (inf t) (fin s m e) refl) k)
below-largest (fin s m e) nan (fin t j c) r A U h k = absurd (true≢false (sym (unfold lt of_bits in U)))
below-largest (fin s m e) (inf true) (fin t j c) r A U h k = absurd (true≢false (sym (unfold lt of_bits in U)))
below-largest (fin s m e) (inf false) (fin t j c) r A U h k = absurd (true≢false (sym (unfold le lt eq in h)))
below-largest (fin s m e) (fin true n d) (fin t j c) r A U h k = absurd (true≢false (sym (unfold lt of_bits in U)))
below-largest (fin s m e) (fin false n d) (fin true j c) r A U h k = absurd (up-to-minus n j d c U h)
below-largest (fin true m e) (fin false n d) (fin false j c) r A U h k = absurd (true≢false (unfold minus in A))
below-largest (fin false m e) (fin false n d) (fin false j c) r A U h k =
    squares (fin false m e ⊗ fin false n d) (fin false m e ⊗ fin false j c) r
    (product-plus (fin false m e) (fin false n d) A (unfold minus in refl)) (product-plus (fin false m e) (fin false j c) A (unfold minus in refl))
    (product-grows m n j e d c (subst T (sym h) tt)) k

-- a square that is below some number is 0 or above
pub square-from : (x r : Float) → T (lt (square_of x) r) → le plus_zero (square_of x) ≡ true
square-from x r h = from_zero (square_of x) r (square-plus x) h
