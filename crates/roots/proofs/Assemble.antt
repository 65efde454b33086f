-- The bits of a rounded root, from the whole number c nearest to √N, where N has 105 or 106 digits: c steps of 2 ^ K units are nearest to √(N * 4 ^ K), and no such root is a tie. Assumes nothing.
use Rattle.std.proofs.Common.{◌≡◌, ℕ, zero, suc, ◌+◌, ◌-◌, ◌*◌, ◌/◌, ◌%◌, ◌^◌, ◌<◌, ◌≤◌, min, ◌⊎◌, refl, ap, ◌∙◌, inl, inr, zero-le, lt_trans, mul-le-mul_right, mul-le-mul_left, mul-lt-mul_of_pos_right, arith, pow-add}
use Prim.Native.Nat.{compare, Ordering}
use native.Mathlib.Nat.{min-eq_left}
use lib.Ieee.{nearest}
use Rattle.roots.specs.Root.{NearRoot, RootBits}
use Rattle.roots.specs.Patterns.{top}
use Rattle.roots.proofs.Squares.{side, four-power, four-pos, square-of, lt-of-sq}
use Rattle.roots.proofs.Rounding.{decided, compare-scaled}
use Rattle.roots.proofs.Steps.{two_steps}

few : (N c : ℕ) → N < 2 ^ 53 * 2 ^ 53 → NearRoot N c → c ≤ 2 ^ 53
few N zero h r = zero-le
few N (suc b) h r = let l : b * b < N = omega (arith, r.low) in lt-of-sq (lt_trans l h)

-- ---- c steps of 2 ^ K units, from below or from above
module _ (N K : ℕ) (large : 2 ^ 104 ≤ N) (small : N < 2 ^ 106) (range : K ≤ 2044) where
  -- b steps that the root lies on or above, and on which side of the next middle
  from-below : (b : ℕ) (o : Ordering) → b * b ≤ N → 4 * N < (2 * b + 3) * (2 * b + 3) → compare (4 * N) ((2 * b + 1) * (2 * b + 1)) ≡ o → RootBits (N * 4 ^ K) (min (K * 2 ^ 52 + nearest b o) top)
  from-below b o lo hi is =
      let mid = (2 * b + 1) * 2 ^ K in
      let a : 4 * (N * 4 ^ K) ≡ 4 * N * 4 ^ K = omega arith in
      let e : compare (4 * (N * 4 ^ K)) (mid * mid) ≡ o = rw (a, square-of (2 * b + 1) K) (compare-scaled (4 * N) ((2 * b + 1) * (2 * b + 1)) (4 ^ K) (four-pos K)) ∙ is in
      rw e at
      (two_steps (N * 4 ^ K) b K
      (rw (square-of b K) (mul-le-mul_right (4 ^ K) lo))
      (rw (a, square-of (2 * b + 3) K) (mul-lt-mul_of_pos_right hi (four-pos K)))
      (inr (rw (square-of (2 ^ 52) K) (mul-le-mul_right (4 ^ K) large)))
      (lt-of-sq (omega (arith, lo))))

  pub assembled : (c : ℕ) → NearRoot N c → RootBits (N * 4 ^ K) (K * 2 ^ 52 + c)
  assembled c r = elim (side N (c * c)) [ inl h ↦ above c r h | inr h ↦ rw fits at (from-below c Ordering.lt h (omega (arith, r.high)) (decided (4 * N) ((2 * c + 1) * (2 * c + 1)) Ordering.lt (omega (arith, r.high)))) ]
    where
      fits : min (K * 2 ^ 52 + c) top ≡ K * 2 ^ 52 + c
      fits = min-eq_left (omega (arith, few N c small r))

      above : (c : ℕ) → NearRoot N c → N < c * c → RootBits (N * 4 ^ K) (K * 2 ^ 52 + c)
      above zero r h = absurd (omega arith)
      above (suc b) r h =
          let e : min (K * 2 ^ 52 + suc b) top ≡ K * 2 ^ 52 + suc b = min-eq_left (omega (arith, few N (suc b) small r)) in
          rw e at (from-below b Ordering.gt (omega (arith, r.low)) (omega arith) (decided (4 * N) ((2 * b + 1) * (2 * b + 1)) Ordering.gt (omega (arith, r.low))))

-- ---- m * 2 ^ s as a number of 53 or 54 digits, 2 ^ 52, and a square
parts : (m s : ℕ) → 52 ≤ s → m * 2 ^ s ≡ m * (1 + s % 2) * 2 ^ 52 * 4 ^ (s / 2 - 26)
parts m s h =
    let g = s / 2 - 26 in
    let e : s ≡ s % 2 + (52 + (g + g)) = omega arith in
    ap (λ (x : ℕ). m * 2 ^ x) e ∙ rw (pow-add 2 (s % 2) (52 + (g + g)), pow-add 2 52 (g + g), pow-add 2 g g, four-power g, one_more (s % 2) (omega arith)) (omega arith)
  where
    one_more : (r : ℕ) → r < 2 → 2 ^ r ≡ 1 + r
    one_more zero l = refl
    one_more (suc zero) l = refl
    one_more (suc (suc r)) l = absurd (omega arith)

pub wide : (m s : ℕ) → (m ≤ m * (1 + s % 2)) × (m * (1 + s % 2) ≤ 2 * m)
wide m s = let h : s % 2 ≤ 1 = omega arith in omega (arith, mul-le-mul_left m h)

-- ---- the same where w has the digits below the leading one and, above them, s - 52: d is m or twice m, by w's 54 last digits
pub shared : (w d : ℕ) → ((w % 2 ^ 53 < 2 ^ 52) × (d ≡ w % 2 ^ 53 + 2 ^ 52)) ⊎ ((2 ^ 52 ≤ w % 2 ^ 53) × (d ≡ w % 2 ^ 53 + w % 2 ^ 53)) → d ≡ (2 ^ 52 + w % 2 ^ 52) * (1 + (w / 2 ^ 52 + 52) % 2)
shared w d h = elim h [
  | inl e ↦ let z : (w / 2 ^ 52 + 52) % 2 ≡ 0 = omega (arith, e.0) in rw z (omega (arith, e.0, e.1))
  | inr e ↦ let z : (w / 2 ^ 52 + 52) % 2 ≡ 1 = omega (arith, e.0) in rw z (omega (arith, e.0, e.1))
]

module _ (w d c : ℕ) (from : 2 ^ 53 ≤ w) (below : w < 3068 * 2 ^ 52) (e : d ≡ (2 ^ 52 + w % 2 ^ 52) * (1 + (w / 2 ^ 52 + 52) % 2)) (near : NearRoot (d * 2 ^ 52) c) where
  abbrev m : ℕ
  m = 2 ^ 52 + w % 2 ^ 52

  abbrev s : ℕ
  s = w / 2 ^ 52 + 52

  large : 2 ^ 104 ≤ d * 2 ^ 52
  large = omega (arith, e, wide m s)

  small : d * 2 ^ 52 < 2 ^ 106
  small = omega (arith, e, wide m s)

  pub c-below : c ≤ 2 ^ 53
  c-below = few (d * 2 ^ 52) c small near

  pub written : RootBits (m * 2 ^ s) ((w - w % 2 ^ 53) / 2 + c)
  written =
      let k : s / 2 - 26 ≡ w / 2 ^ 53 = omega arith in
      let f : (w - w % 2 ^ 53) / 2 ≡ w / 2 ^ 53 * 2 ^ 52 = omega arith in
      let n : m * 2 ^ s ≡ d * 2 ^ 52 * 4 ^ (w / 2 ^ 53) = parts m s (omega arith) ∙ rw (← e, k) in
      rw (n, f) (assembled (d * 2 ^ 52) (w / 2 ^ 53) large small (omega arith) c near)
