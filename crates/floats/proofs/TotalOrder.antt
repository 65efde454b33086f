-- The total order on finite numbers is the order of signs and then of sizes, so "does not come before" is transitive. Sizes are fractions: m * 2 ^ e is m * up e / down e. Assumes nothing.
use mathlib.Core.Path.{◌≡◌, refl, sym, ◌∙◌, subst}
use mathlib.Core.Bool.{Bool, true, false, not, ◌&&◌, ◌||◌, true≢false}
use Prim.Native.Nat.{ℕ, ◌+◌, ◌*◌, ◌≤◌, ◌<◌}
use native.Mathlib.Omega.{arith}
use lib.Dec.{T, ltb, eqb, nltb→le}
use lib.Arith.{le→nltb}
use lib.IntN.{ℤ}
use lib.Ieee.{Float, nan, inf, fin, up, down, below, level, lt, eq}
use lib.Ieee.Bits.{is_false}
use lib.Ieee.Fits.{down_pos}
use lib.Ieee.Positive.{through}
use lib.Ieee.Scale.{finite}
use Rattle.floats.specs.Signs.{minus, before}

-- ±a before ±b: a minus before a plus, and of one sign the smaller size first, or the larger
abbrev signed : Bool → Bool → ℕ → ℕ → Bool
signed false false a b = ltb a b
signed false true a b = false
signed true false a b = true
signed true true a b = ltb b a

below-signed : (s t : Bool) (a b : ℕ) → below s a t b || (level s a t b && (s && not t)) ≡ signed s t a b
below-signed false false a b = go (ltb a b) (eqb a b)
  where
    go : (x y : Bool) → x || (y && true && false) ≡ x
    go true y = refl
    go false true = refl
    go false false = refl
below-signed false true a b = go (eqb a b) (eqb a 0)
  where
    go : (x y : Bool) → false || (x && y && false) ≡ false
    go true true = refl
    go true false = refl
    go false y = refl
below-signed true true a b = go (ltb b a) (eqb a b)
  where
    go : (x y : Bool) → x || (y && true && false) ≡ x
    go true y = refl
    go false true = refl
    go false false = refl
below-signed true false a b = go (ltb 0 (a + b)) (eqb a b) (eqb a 0) (λ h. nltb→le 0 (a + b) h) (eq-none a b)
  where
    eq-none : (a b : ℕ) → a + b ≤ 0 → T (eqb a b) × T (eqb a 0)
    eq-none a b h = let p : a ≡ 0 = omega arith in let q : b ≡ 0 = omega arith in rw (p, q) (tt, tt)

    go : (x y z : Bool) → (T (not x) → a + b ≤ 0) → (a + b ≤ 0 → T y × T z) → x || (y && (false || z) && true) ≡ true
    go true y z f g = refl
    go false true true f g = refl
    go false true false f g = absurd (g (f tt)).1
    go false false z f g = absurd (g (f tt)).0

before-signed : (s t : Bool) (m n : ℕ) (e d : ℤ) → before (fin s m e) (fin t n d) ≡ signed s t (m * up e * down d) (n * up d * down e)
unfolding lt eq minus
before-signed s t m n e d = below-signed s t (m * up e * down d) (n * up d * down e)

not-less : (a b : ℕ) → ltb a b ≡ false → b ≤ a
not-less a b h = nltb→le a b (subst (λ (x : Bool). T (not x)) (sym h) tt)

no_less : (a b : ℕ) → b ≤ a → ltb a b ≡ false
no_less a b h = is_false (ltb a b) (le→nltb a b h)

-- sizes x / p, y / q, z / r in falling order
fall : (x y z p q r : ℕ) → 0 < q → ltb (x * q) (y * p) ≡ false → ltb (y * r) (z * q) ≡ false → ltb (x * r) (z * p) ≡ false
fall x y z p q r Q f g = no_less (x * r) (z * p) (through z y x r q p Q (not-less (y * r) (z * q) g) (not-less (x * q) (y * p) f))

signed-falls : (s t u : Bool) (x y z p q r : ℕ) → 0 < q → signed s t (x * q) (y * p) ≡ false → signed t u (y * r) (z * q) ≡ false → signed s u (x * r) (z * p) ≡ false
signed-falls false false false x y z p q r Q f g = fall x y z p q r Q f g
signed-falls false false true x y z p q r Q f g = refl
signed-falls false true false x y z p q r Q f g = absurd (true≢false g)
signed-falls false true true x y z p q r Q f g = refl
signed-falls true false u x y z p q r Q f g = absurd (true≢false f)
signed-falls true true false x y z p q r Q f g = absurd (true≢false g)
signed-falls true true true x y z p q r Q f g = fall z y x r q p Q g f

-- of finite numbers: where x does not come before y, nor y before z, x does not come before z
pub falls-on : (x y z : Float) → T (finite x) → T (finite y) → T (finite z) → before x y ≡ false → before y z ≡ false → before x z ≡ false
falls-on nan y z a b o f g = elim a [ ]
falls-on (inf _) y z a b o f g = elim a [ ]
falls-on (fin s m e) nan z a b o f g = elim b [ ]
falls-on (fin s m e) (inf _) z a b o f g = elim b [ ]
falls-on (fin s m e) (fin t n d) nan a b o f g = elim o [ ]
falls-on (fin s m e) (fin t n d) (inf _) a b o f g = elim o [ ]
falls-on (fin s m e) (fin t n d) (fin u k c) a b o f g =
    before-signed s u m k e c
    ∙ signed-falls s t u (m * up e) (n * up d) (k * up c) (down e) (down d) (down c) (down_pos d) (sym (before-signed s t m n e d) ∙ f) (sym (before-signed t u n k d c) ∙ g)
