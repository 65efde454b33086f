-- Turning the sign of every residual changes nothing in the result or the rooms, for every input. A rounding does not see the sign; so a difference turns its sign with its
-- terms or, where it is exactly 0, may keep it, and its square is one either way. Assumes nothing.
use mathlib.Core.Path.{◌≡◌, refl, sym, ap, ◌∙◌, subst}
use mathlib.Core.Logic.{◌⊎◌, inl, inr}
use Prim.Native.Nat.{ℕ, zero, suc, ◌+◌, ◌-◌, ◌*◌, ◌<◌}
use mathlib.Core.Bool.{Bool, true, false, not, ◌&&◌, beq, cond}
use mathlib.Core.List.{List, [], ◌∷◌}
use lib.Dec.{T, ltb}
use lib.ListN.{length, length-map}
use lib.Ieee.{Float, nan, inf, fin, binary64, up, down, round, neg, sum, add, sub, fits}
use lib.Ieee.Fits.{neg-fits}
use lib.Ieee.Scale.{finite}
use Rattle.floats.specs.Words.{◌⊖◌, ◌‼◌, square_of}
use Rattle.floats.specs.Sums.{sum_of}
use Rattle.floats.specs.Held.{held?}
use Rattle.floats.proofs.HeldLaws.{all-at, all_of}
use Rattle.floats.proofs.ListLaws.{sum_same}
use Rattle.floats.proofs.Negatives.{round-neg, square-neg}
use Rattle.autocorrelation.specs.Statistic.{differences, squares}
use Rattle.outcome.specs.declared.Alternative.{Alternative}
use Rattle.outcome.specs.declared.Outcome.{Outcome}
use Rattle.outcome.specs.declared.Choice.{Choice}
use Rattle.theorems.specs.Scan.{turned, StatisticSignLaw, SignLaw}
use Rattle.theorems.proofs.One.{Promised}
use Rattle.theorems.proofs.Seen.{answer-same, alike, allowed}

-- number t of the turned run is the negative of number t, beyond its end too
at-turned : (e : List Float) (t : ℕ) → turned e ‼ t ≡ neg (e ‼ t)
unfolding neg
at-turned [] t = refl
at-turned (x ∷ e) zero = refl
at-turned (x ∷ e) (suc t) = at-turned e t

-- ---- a sum, a difference and a square, of negatives

-- one is the negative of the other, or both are the same, as where a difference is exactly 0
abbrev Mirror : Float → Float → Type 0
Mirror x y = (x ≡ neg y) ⊎ (x ≡ y)

-- of unlike signs the larger part decides
less-neg : (s : Bool) (a b c : ℕ) → Mirror
    (cond (ltb a b) (round binary64 s (b - a) c) (round binary64 (not s && ltb b a) (a - b) c))
    (cond (ltb a b) (round binary64 (not s) (b - a) c) (round binary64 (s && ltb b a) (a - b) c))
less-neg s a b c = go s (ltb a b) (ltb b a)
  where
    go : (s k l : Bool) → Mirror
        (cond k (round binary64 s (b - a) c) (round binary64 (not s && l) (a - b) c))
        (cond k (round binary64 (not s) (b - a) c) (round binary64 (s && l) (a - b) c))
    go true true l = inl (round-neg binary64 false (b - a) c)
    go false true l = inl (round-neg binary64 true (b - a) c)
    go true false true = inl (round-neg binary64 true (a - b) c)
    go false false true = inl (round-neg binary64 false (a - b) c)
    go true false false = inr refl
    go false false false = inr refl

sum-neg : (s : Bool) (a : ℕ) (t : Bool) (b c : ℕ) → Mirror (sum binary64 (not s) a (not t) b c) (sum binary64 s a t b c)
unfolding sum
sum-neg true a true b c = inl (round-neg binary64 true (a + b) c)
sum-neg false a false b c = inl (round-neg binary64 false (a + b) c)
sum-neg true a false b c = less-neg true a b c
sum-neg false a true b c = less-neg false a b c

add-neg : (x y : Float) → Mirror (add binary64 (neg x) (neg y)) (add binary64 x y)
unfolding add neg
add-neg nan y = inl refl
add-neg (inf s) nan = inl refl
add-neg (inf s) (inf t) = go s t
  where
    go : (s t : Bool) → Mirror (cond (beq (not s) (not t)) (inf (not s)) nan) (cond (beq s t) (inf s) nan)
    go true true = inl refl
    go true false = inl refl
    go false true = inl refl
    go false false = inl refl
add-neg (inf s) (fin t n d) = inl refl
add-neg (fin s m e) nan = inl refl
add-neg (fin s m e) (inf t) = inl refl
add-neg (fin s m e) (fin t n d) = sum-neg s (m * up e * down d) t (n * up d * down e) (down e * down d)

difference-neg : (x y : Float) → Mirror (neg x ⊖ neg y) (x ⊖ y)
unfolding sub
difference-neg x y = add-neg x (neg y)

mirror-square : (x y : Float) → Mirror x y → square_of x ≡ square_of y
mirror-square x y (inl h) = ap square_of h ∙ square-neg y
mirror-square x y (inr h) = ap square_of h

finite-neg : (x : Float) → finite (neg x) ≡ finite x
unfolding neg
finite-neg nan = refl
finite-neg (inf s) = refl
finite-neg (fin s m e) = refl

-- ---- the two sums
squares-turned : (e : List Float) → squares (turned e) ≡ squares e
squares-turned e =
    ap (λ (n : ℕ). sum_of n (λ t. square_of (turned e ‼ t))) (length-map e neg)
    ∙ sum_same (length e) (λ t. square_of (turned e ‼ t)) (λ t. square_of (e ‼ t)) (λ t l. ap square_of (at-turned e t) ∙ square-neg (e ‼ t))

differences-turned : (e : List Float) → differences (turned e) ≡ differences e
differences-turned e =
    ap (λ (n : ℕ). sum_of (n - 1) (λ t. square_of (turned e ‼ (t + 1) ⊖ turned e ‼ t))) (length-map e neg)
    ∙ sum_same (length e - 1) (λ t. square_of (turned e ‼ (t + 1) ⊖ turned e ‼ t)) (λ t. square_of (e ‼ (t + 1) ⊖ e ‼ t))
    (λ t l. ap (λ (x : Float). square_of (x ⊖ turned e ‼ t)) (at-turned e (t + 1)) ∙ ap (λ (x : Float). square_of (neg (e ‼ (t + 1)) ⊖ x)) (at-turned e t)
    ∙ mirror-square (neg (e ‼ (t + 1)) ⊖ neg (e ‼ t)) (e ‼ (t + 1) ⊖ e ‼ t) (difference-neg (e ‼ (t + 1)) (e ‼ t)))

-- THE SIGN: of the statistic, refusals and places too
pub statistic-sign : StatisticSignLaw
statistic-sign e =
    answer-same e (turned e) (length-map e neg) (λ t l. ap finite (at-turned e t) ∙ finite-neg (e ‼ t)) (λ many none. rw (squares-turned e, differences-turned e) refl)

-- of the test, result and rooms
pub sign : SignLaw
sign e = alike e (turned e) (length-map e neg) (statistic-sign e)

-- a turned run is as well held
turned-held : (e : List Float) → T (held? e) → T (held? (turned e))
turned-held e h =
    all_of (length (turned e)) (λ t. fits binary64 (turned e ‼ t))
    (λ t l. subst (λ (x : Float). T (fits binary64 x)) (sym (at-turned e t))
    (neg-fits binary64 (e ‼ t) (all-at (length e) (λ t. fits binary64 (e ‼ t)) t h (subst (λ (n : ℕ). t < n) (length-map e neg) l))))

-- whatever the promise allows for a run, it allows for the turned one
pub sign-allowed : (e x : List Float) (k : ℕ) (a : Alternative) (c : Choice) (matrix parts : List Float) (r : Outcome) (m p : List Float)
    → Promised e x k a c matrix parts r m p → Promised (turned e) x k a c matrix parts r m p
sign-allowed e = allowed e (turned e) (sign e)
