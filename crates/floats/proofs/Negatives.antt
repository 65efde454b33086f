-- A rounding does not see the sign: it hands it on, and does the same to both. So a product turns its sign with a factor, a square does not depend on the sign, and what is made of
-- numbers with the sign plus has it too. The laws go by the three kinds of value. Assumes nothing.
use mathlib.Core.Path.{◌≡◌, refl, sym, ap, ◌∙◌}
use mathlib.Core.Bool.{Bool, true, false, not, cond, true≢false}
use Prim.Native.Nat.{ℕ, zero, suc, ◌+◌, ◌*◌, ◌^◌}
use lib.Dec.{ltb, eqb}
use lib.Ieee.{Float, nan, inf, fin, Format, binary64, prec, emax, low, up, down, unlike, units, odd, round, neg, mul}
use lib.Ieee.Fits.{round_is}
use lib.Ieee.Order.{kept, drop}
use Rattle.floats.specs.Words.{◌⊗◌, square_of}
use Rattle.floats.specs.Signs.{minus}
use Rattle.floats.proofs.Commutes.{product-swap}

twice : (s : Bool) → not (not s) ≡ s
twice true = refl
twice false = refl

-- the negative of the negative is the number
pub neg-neg : (x : Float) → neg (neg x) ≡ x
unfolding neg
neg-neg nan = refl
neg-neg (inf s) = ap inf (twice s)
neg-neg (fin s m e) = ap (λ (t : Bool). fin t m e) (twice s)

-- the negative of a number with the sign minus has the sign plus
pub minus-neg : (x : Float) → minus x ≡ true → minus (neg x) ≡ false
unfolding minus neg
minus-neg nan h = refl
minus-neg (inf s) h = ap not h
minus-neg (fin s m e) h = ap not h

-- rounding hands the sign on, and does the same to both signs
odd-neg : (d : ℕ) (s : Bool) (q k l : ℕ) → odd d (not s) q k l ≡ neg (odd d s q k l)
unfolding neg odd
odd-neg d s zero k l = refl
odd-neg d s (suc q) k l = refl

odd_sign : (d : ℕ) (s : Bool) (q k l : ℕ) → minus (odd d s q k l) ≡ s
unfolding minus odd
odd_sign d s zero k l = refl
odd_sign d s (suc q) k l = refl

units-neg : (f : Format) (s : Bool) (q k : ℕ) → units f (not s) q k ≡ neg (units f s q k)
unfolding neg units
units-neg f s q k = go (ltb (q * 2 ^ k) (2 ^ (low f + suc (emax f))))
  where
    go : (b : Bool) → cond b (odd (suc (prec f)) (not s) q k (low f)) (inf (not s)) ≡ neg (cond b (odd (suc (prec f)) s q k (low f)) (inf s))
    go true = odd-neg (suc (prec f)) s q k (low f)
    go false = refl

units-sign : (f : Format) (s : Bool) (q k : ℕ) → minus (units f s q k) ≡ s
unfolding minus units
units-sign f s q k = go (ltb (q * 2 ^ k) (2 ^ (low f + suc (emax f))))
  where
    go : (b : Bool) → minus (cond b (odd (suc (prec f)) s q k (low f)) (inf s)) ≡ s
    go true = odd_sign (suc (prec f)) s q k (low f)
    go false = refl

pub round-neg : (f : Format) (s : Bool) (a c : ℕ) → round f (not s) a c ≡ neg (round f s a c)
round-neg f s a c =
    let n : ℕ = a * 2 ^ low f in
    round_is f (not s) a c ∙ units-neg f s (kept (prec f) n c) (drop (prec f) n c) ∙ sym (ap neg (round_is f s a c))

round-sign : (f : Format) (s : Bool) (a c : ℕ) → minus (round f s a c) ≡ s
round-sign f s a c = let n : ℕ = a * 2 ^ low f in ap minus (round_is f s a c) ∙ units-sign f s (kept (prec f) n c) (drop (prec f) n c)

unlike-not : (s t : Bool) → unlike (not s) t ≡ not (unlike s t)
unlike-not true true = refl
unlike-not true false = refl
unlike-not false true = refl
unlike-not false false = refl

neg-either : (b s : Bool) → cond b nan (inf (not s)) ≡ neg (cond b nan (inf s))
unfolding neg
neg-either true s = refl
neg-either false s = refl

-- a product with one sign changed is the product with its sign changed
pub product-neg : (x y : Float) → neg x ⊗ y ≡ neg (x ⊗ y)
unfolding neg mul
product-neg nan y = refl
product-neg (inf s) nan = refl
product-neg (inf s) (inf t) = ap inf (unlike-not s t)
product-neg (inf s) (fin t n d) = rw (unlike-not s t) (neg-either (eqb n 0) (unlike s t))
product-neg (fin s m e) nan = refl
product-neg (fin s m e) (inf t) = rw (unlike-not s t) (neg-either (eqb m 0) (unlike s t))
product-neg (fin s m e) (fin t n d) = rw (unlike-not s t) (round-neg binary64 (unlike s t) (m * up e * (n * up d)) (down e * down d))

-- a square does not depend on the sign
pub square-neg : (x : Float) → square_of (neg x) ≡ square_of x
square-neg x = product-neg x (neg x) ∙ ap neg (product-swap x (neg x) ∙ product-neg x x) ∙ neg-neg (square_of x)

sign-either : (b : Bool) → minus (cond b nan (inf false)) ≡ false
unfolding minus
sign-either true = refl
sign-either false = refl

-- a product of numbers with the sign plus has the sign plus
pub product-plus : (x y : Float) → minus x ≡ false → minus y ≡ false → minus (x ⊗ y) ≡ false
unfolding minus mul
product-plus nan y h k = refl
product-plus (inf true) y h k = absurd (true≢false h)
product-plus (inf false) nan h k = refl
product-plus (inf false) (inf t) h k = rw k
product-plus (inf false) (fin true n d) h k = absurd (true≢false k)
product-plus (inf false) (fin false n d) h k = sign-either (eqb n 0)
product-plus (fin true m e) y h k = absurd (true≢false h)
product-plus (fin false m e) nan h k = refl
product-plus (fin false m e) (inf true) h k = absurd (true≢false k)
product-plus (fin false m e) (inf false) h k = sign-either (eqb m 0)
product-plus (fin false m e) (fin true n d) h k = absurd (true≢false k)
product-plus (fin false m e) (fin false n d) h k = round-sign binary64 false (m * up e * (n * up d)) (down e * down d)

-- a square has the sign plus
pub square-plus : (x : Float) → minus (square_of x) ≡ false
square-plus x = go (minus x) refl
  where
    go : (b : Bool) → minus x ≡ b → minus (square_of x) ≡ false
    go true h = ap minus (sym (square-neg x)) ∙ product-plus (neg x) (neg x) (minus-neg x h) (minus-neg x h)
    go false h = product-plus x x h h
