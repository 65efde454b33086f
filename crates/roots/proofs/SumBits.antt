-- The bits that `subnormal`, `careful` and `sum_root` give, from what `root_below` says of a sum of squares. Each is a case of `sum-steps`.
-- `careful` and `sum_root` take the digits of two numbers as their patterns have them. `subnormal` takes them z places up, and the digits of the root as many places down again. Assumes nothing.
use Rattle.std.proofs.Common.{◌≡◌, ℕ, suc, ◌+◌, ◌-◌, ◌*◌, ◌/◌, ◌%◌, ◌^◌, ◌<◌, ◌≤◌, min, ◌⊎◌, sym, refl, ap, ◌∙◌, inl, inr, mul-le-mul_right, mod-lt, mod-eq_of_lt, lt_of_mul-lt-mul_right, mul-pos, div-add-mod', le_of_mul-le-mul_right, arith, lit<, lit≤, pow_pos, pow-add}
use Prim.Native.Nat.{compare}
use lib.Pow.{shr_le}
use lib.Ieee.Fits.{nearest-le}
use Rattle.roots.specs.Root.{RootBits}
use Rattle.roots.specs.Patterns.{top, dropped, Fields, square_sum}
use Rattle.roots.specs.Squares.{squares, rounded_at, RootBelow}
use Rattle.roots.proofs.Squares.{side, four-power, sq-le}
use Rattle.roots.proofs.Steps.{sum-steps, pattern-sum}
use Rattle.roots.proofs.Cases.{Shift}

pub rounded-most : (m w d c k : ℕ) → rounded_at m w d c k ≤ suc c
rounded-most m w d c k = nearest-le c (compare (4 * squares m w d) ((2 * c + 1) * (2 * c + 1) * 4 ^ (d + k)))

-- ---- by the digits and exponents of two numbers, d apart
field-sum : {p q m w e f : ℕ} (d : ℕ) → Fields p m e → Fields q w f → f + d ≡ e → square_sum p q ≡ squares m w d * 4 ^ f
field-sum {p} {q} {m} {w} {e} {f} d x y apart =
    let i : p - dropped p * 2 ^ 52 ≡ m = sym x.digits in
    let j : q - dropped q * 2 ^ 52 ≡ w = sym y.digits in
    let g : dropped q ≡ f = sym y.exponent in
    let h : dropped p - dropped q ≡ d = omega (arith, x.exponent, y.exponent) in
    pattern-sum p q (omega (arith, x.exponent, y.exponent)) ∙ rw (i, j, h, g)

pub by-fields : {p q m w e f d c k base test : ℕ} → Fields p m e → Fields q w f → f + d ≡ e → RootBelow m w d c k base test → RootBits (square_sum p q) (min ((e + k) * 2 ^ 52 + rounded_at m w d c k) top)
by-fields {f} {d} {k} x y apart r = rw (field-sum d x y apart) (rw apart at (sum-steps _ _ d f _ k r.low r.high (inr r.from) r.few))

-- a number that is not subnormal
normal-fields : (b : ℕ) → 2 ^ 52 ≤ b → Fields b (b % 2 ^ 52 + 2 ^ 52) (b / 2 ^ 52 - 1)
normal-fields b h = record { digits = omega arith; exponent = refl; below = omega arith; normal = λ g. omega arith }

-- two such numbers, where the root is one too and the leading digits tell which way it goes
pub told : {d c k base test : ℕ} (p q up : ℕ) → 2 ^ 52 ≤ q → q / 2 ^ 52 + d ≡ p / 2 ^ 52 → p / 2 ^ 52 + k ≤ 2046 → RootBelow (p % 2 ^ 52 + 2 ^ 52) (q % 2 ^ 52 + 2 ^ 52) d c k base test → ((base < test) × (up ≡ 1)) ⊎ ((test + 3 * 2 ^ 44 ≤ base) × (up ≡ 0)) → RootBits (square_sum p q) ((p / 2 ^ 52 + k - 1) * 2 ^ 52 + c + up)
told {d} {c} {k} p q up normal apart range below way =
    let r = rounded_at (p % 2 ^ 52 + 2 ^ 52) (q % 2 ^ 52 + 2 ^ 52) d c k in
    let goes : (r ≡ c + up) × (up ≤ 1) = elim way [ inl h ↦ (omega (arith, h, below.up h.0), omega (arith, h)) | inr h ↦ (omega (arith, h, below.down h.0), omega (arith, h)) ] in
    let e : min ((p / 2 ^ 52 - 1 + k) * 2 ^ 52 + r) top ≡ (p / 2 ^ 52 + k - 1) * 2 ^ 52 + c + up = omega (arith, goes, below.few) in
    rw e at (by-fields (normal-fields p (omega arith)) (normal-fields q normal) (omega arith) below)

-- ---- two subnormal numbers. C is the root of their sum z places up, in steps of K, where J * K is 2 ^ z; and c is C in steps of J
module _ (p q J K C c : ℕ) (some : 0 < J) (pos : 0 < J * K) (least : c * J ≤ C) (most : C < (c + 1) * J) where
  down-from : C * C * (K * K) ≤ p * (J * K) * (p * (J * K)) + q * (J * K) * (q * (J * K)) → c * c ≤ p * p + q * q
  down-from lo =
      let h : c * c * (J * K * (J * K)) ≤ (p * p + q * q) * (J * K * (J * K)) = omega (arith, mul-le-mul_right (K * K) (sq-le least)) in
      le_of_mul-le-mul_right h (mul-pos pos pos)

  down-below : 4 * (p * (J * K) * (p * (J * K)) + q * (J * K) * (q * (J * K))) < (2 * C + 3) * (2 * C + 3) * (K * K) → 4 * (p * p + q * q) < (2 * c + 3) * (2 * c + 3)
  down-below hi =
      let l : 2 * C + 3 ≤ (2 * c + 3) * J = omega arith in
      lt_of_mul-lt-mul_right (J * K * (J * K)) (omega (arith, mul-le-mul_right (K * K) (sq-le l)))

-- there is a place to go down
pub room : {p z : ℕ} → p < 2 ^ 52 → Shift p z → 0 < z
room {p} {z} small up = elim (side 0 z) [ inl h ↦ h | inr h ↦ let e : z ≡ 0 = omega arith in absurd (omega (arith, rw e at up.from)) ]

module _ (p q z : ℕ) (order : q ≤ p) (up : Shift p z) where
  smaller : q * 2 ^ z < 2 ^ 53
  smaller = omega (arith, up.below, up.same, mul-le-mul_right (2 ^ z) order)

  smaller-same : q * 2 ^ z % 2 ^ 64 ≡ q * 2 ^ z
  smaller-same = mod-eq_of_lt (omega (arith, smaller))

  pub smaller-below : q * 2 ^ z % 2 ^ 64 < 2 ^ 53
  smaller-below = rw smaller-same smaller

  subnormal-sum : p < 2 ^ 52 → square_sum p q ≡ squares p q 0 * 4 ^ 0
  subnormal-sum small = field-sum 0 (whole p small) (whole q (omega arith)) refl
    where
      whole : (b : ℕ) → b < 2 ^ 52 → Fields b b 0
      whole b h = record { digits = omega arith; exponent = omega arith; below = omega arith; normal = λ g. omega arith }

  pub subnormal-bits : {C k base test : ℕ} → p < 2 ^ 52 → RootBelow (p * 2 ^ z % 2 ^ 64) (q * 2 ^ z % 2 ^ 64) 0 C k base test → RootBits (square_sum p q) (rounded_at p q 0 (C / 2 ^ (z - k)) 0)
  subnormal-bits {C} {k} {base} {test} small read =
      let J = 2 ^ (z - k) in
      let K = 2 ^ k in
      let c = C / J in
      let r = rounded_at p q 0 c 0 in
      let some : 0 < J = pow_pos (z - k) in
      let pos : 0 < J * K = mul-pos some (pow_pos k) in
      let below : RootBelow (p * 2 ^ z) (q * 2 ^ z) 0 C k base test = rw (up.same, smaller-same) at read in
      let i : z ≡ z - k + k = omega (arith, room small up, below.one) in
      let e : 2 ^ z ≡ J * K = ap (λ (x : ℕ). 2 ^ x) i ∙ pow-add 2 (z - k) k in
      let o : 0 + k ≡ k = omega arith in
      let f : 4 ^ (0 + k) ≡ K * K = rw o (four-power k) in
      let least : c * J ≤ C = omega (arith, div-add-mod' C J) in
      let most : C < (c + 1) * J = omega (arith, div-add-mod' C J, mod-lt C some) in
      let lo : c * c ≤ p * p + q * q = down-from p q J K C c some pos least most (omega (arith, rw (e, f) at below.low)) in
      let hi : 4 * (p * p + q * q) < (2 * c + 3) * (2 * c + 3) = down-below p q J K C c some pos least most (omega (arith, rw (e, f) at below.high)) in
      let few : c < 2 ^ 53 = omega (arith, shr_le C (z - k), below.few) in
      let g : min ((0 + 0 + 0) * 2 ^ 52 + r) top ≡ r = omega (arith, rounded-most p q 0 c 0) in
      rw (subnormal-sum small) (rw g at (sum-steps p q 0 0 c 0 (omega arith) (omega arith) (inl refl) few))

-- two zeros
pub zeros : (p q : ℕ) → p ≡ 0 → q ≤ p → RootBits (square_sum p q) 0
zeros p q e h =
    let f : q ≡ 0 = omega arith in
    rw (e, f) (sum-steps 0 0 0 0 0 0 (lit≤ tt) (lit< tt) (inl refl) (lit< tt))
