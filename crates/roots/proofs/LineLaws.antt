-- Each of the 48 lines is near 4 √n over its part: its square and 16 n differ by 3 * 2 ^ 18 times the line at most (`line-is-near`). Nothing here is about floats. Assumes nothing.
-- x is n without its last 39 digits, and u = l + k x the line at n: l is the line's word, and its slope k the last digits of that. Two laws hold of any line:
-- 1. The square of a sum is at least four times the product, so u² ≥ 4 l k x: where l * k is near 2 ^ 41, u² is not far below 2 ^ 43 x.
-- 2. u² - 2 ^ 43 x is convex in x, so it is largest at an end of the part: where u² is not far above 2 ^ 43 x at the ends, it is not between them.
-- That leaves comparisons of whole numbers for each part, and they hold of all 48 by computation.
use Rattle.std.proofs.Common.{◌≡◌, ℕ, zero, suc, ◌+◌, ◌-◌, ◌*◌, ◌/◌, ◌%◌, ◌^◌, ◌<◌, ◌≤◌, Bool, true, false, ◌&&◌, T, leb, List, [], ◌∷◌, get_or, ap, subst, inl, inr, zero-le, mul-le-mul_right, mul-le-mul_left, le_of_mul-le-mul_right, arith, leb→le}
use Rattle.roots.specs.Lines.{line_of}
use Rattle.roots.proofs.Squares.{side, sum-square}

-- the part that n lies in, and the line at n
abbrev pub part_of : ℕ → ℕ
part_of n = n / 2 ^ 56 % 64

abbrev pub line_at : ℕ → ℕ
line_at n = line_of (part_of n) + line_of (part_of n) % 4096 * (n / 2 ^ 39)

-- u is near 4 √n
pub record NearLine (n u : ℕ) : Type 0 where
  pub above : 16 * n ≤ u * u + 3 * 2 ^ 18 * u
  pub under : u * u ≤ 16 * n + 3 * 2 ^ 18 * u

-- u is a little above 2 ^ 32 at least, where 4 √n begins, and 2 ^ 33 at most, where that ends; and it is not below the line of slope 2 ^ -29 that ends there
pub record Inside (n u : ℕ) : Type 0 where
  pub from : 2 ^ 32 + 2 ^ 18 ≤ u
  pub most : u ≤ 2 ^ 33
  pub chord : 2 ^ 33 ≤ u + 2 ^ 10 * (2 ^ 23 - 1 - n / 2 ^ 39)

-- ---- comparisons of whole numbers, and their test
abbrev Hold : List (ℕ × ℕ) → Type 0
Hold cs = (i : ℕ) → (get_or cs i (0, 0)).0 ≤ (get_or cs i (0, 0)).1

abbrev test : List (ℕ × ℕ) → Bool
test [] = true
test (c ∷ cs) = leb c.0 c.1 && test cs

both : (a b : Bool) → T (a && b) → T a × T b
both true b t = (tt, t)
both false b t = absurd t

held : (cs : List (ℕ × ℕ)) → T (test cs) → Hold cs
held [] t i = zero-le
held (c ∷ cs) t zero = leb→le c.0 c.1 (both (leb c.0 c.1) (test cs) t).0
held (c ∷ cs) t (suc i) = held cs (both (leb c.0 c.1) (test cs) t).1 i

-- ---- the line from l with the slope k, over the part from o to e = o + 2 ^ 17 - 1
-- What is asked of it: 0 the slope; 1 the line at the part's beginning, 2 and 3 at its end; 4 how far the line is below the root anywhere; 5 and 6 how far it is above it at both ends.
abbrev asked : ℕ → ℕ → ℕ → List (ℕ × ℕ)
asked l k o =
    let e = o + (2 ^ 17 - 1) in
    let first = l + k * o in
    let last = l + k * e in
    (k, 2 ^ 10) ∷ (2 ^ 32 + 2 ^ 18, first) ∷ (last, 2 ^ 33) ∷ (2 ^ 33, last + 2 ^ 10 * (2 ^ 23 - 1 - e)) ∷
    (4 * (2 ^ 41 - l * k) * e + 2 ^ 43, 3 * 2 ^ 18 * first) ∷ (first * first, 2 ^ 43 * o + 3 * 2 ^ 18 * first) ∷ (last * last, 2 ^ 43 * e + 3 * 2 ^ 18 * first) ∷ []

-- a square less c times x is not above e between two places where it is not
convex : (k v c o e x y : ℕ) → 0 < x + y → v * v ≤ c * o + e → (v + k * (x + y)) * (v + k * (x + y)) ≤ c * (o + (x + y)) + e → (v + k * x) * (v + k * x) ≤ c * (o + x) + e
convex k v c o e x y some first last =
    let f : y * (v * v) ≤ y * (c * o + e) = mul-le-mul_left y first in
    let g : x * ((v + k * (x + y)) * (v + k * (x + y))) ≤ x * (c * (o + (x + y)) + e) = mul-le-mul_left x last in
    let h : (v + k * x) * (v + k * x) * (x + y) ≤ (c * (o + x) + e) * (x + y) = omega (arith, f, g) in
    le_of_mul-le-mul_right h some

module _ (l k o n : ℕ) (from : o ≤ n / 2 ^ 39) (most : n / 2 ^ 39 ≤ o + (2 ^ 17 - 1)) where
  abbrev x : ℕ
  x = n / 2 ^ 39

  abbrev e : ℕ
  e = o + (2 ^ 17 - 1)

  abbrev first : ℕ
  first = l + k * o

  abbrev last : ℕ
  last = l + k * e

  abbrev u : ℕ
  u = l + k * x

  rises : first ≤ u
  rises = omega (arith, mul-le-mul_left k from)

  not-below : 4 * (2 ^ 41 - l * k) * e + 2 ^ 43 ≤ 3 * 2 ^ 18 * first → 16 * n ≤ u * u + 3 * 2 ^ 18 * u
  not-below few =
      let short = 2 ^ 41 - l * k in
      let a : 2 ^ 41 * x ≤ (l * k + short) * x = mul-le-mul_right x (omega arith) in
      let b : short * x ≤ short * e = mul-le-mul_left short most in
      omega (arith, sum-square l (k * x), a, b, rises)

  not-above : first * first ≤ 2 ^ 43 * o + 3 * 2 ^ 18 * first → last * last ≤ 2 ^ 43 * e + 3 * 2 ^ 18 * first → u * u ≤ 16 * n + 3 * 2 ^ 18 * u
  not-above begins ends =
      let y = x - o in
      let z = e - x in
      let s : o + (y + z) ≡ e = omega arith in
      let f : o + y ≡ x = omega arith in
      let g : k * (o + y) ≡ k * x = ap (λ (t : ℕ). k * t) f in
      let h : k * (o + (y + z)) ≡ k * e = ap (λ (t : ℕ). k * t) s in
      let i : first + k * (y + z) ≡ last = omega (arith, h) in
      let j : first + k * y ≡ u = omega (arith, g) in
      let c : (first + k * y) * (first + k * y) ≤ 2 ^ 43 * (o + y) + 3 * 2 ^ 18 * first = convex k first (2 ^ 43) o (3 * 2 ^ 18 * first) y z (omega arith) begins (rw (i, s) ends) in
      let d : u * u ≤ 2 ^ 43 * x + 3 * 2 ^ 18 * first = rw (j, f) at c in
      omega (arith, d, rises)

  within : e < 2 ^ 23 → k ≤ 2 ^ 10 → 2 ^ 32 + 2 ^ 18 ≤ first → last ≤ 2 ^ 33 → 2 ^ 33 ≤ last + 2 ^ 10 * (2 ^ 23 - 1 - e) → Inside n u
  within end flat low high chord =
      let z = e - x in
      let s : x + z ≡ e = omega arith in
      let f : k * (x + z) ≡ k * e = ap (λ (t : ℕ). k * t) s in
      let g : k * z ≤ 2 ^ 10 * z = mul-le-mul_right z flat in
      record { from = omega (arith, rises); most = omega (arith, f); chord = omega (arith, f, g) }

-- ---- the 48 parts
abbrev asked_of : ℕ → List (ℕ × ℕ)
asked_of p = asked (line_of p) (line_of p % 4096) (p * 2 ^ 17)

each : ℕ → Bool
each zero = true
each (suc k) = test (asked_of (k + 16)) && each k

of-each : (n i : ℕ) → i < n → T (each n) → Hold (asked_of (i + 16))
unfolding each
of-each zero i h t = absurd (omega arith)
of-each (suc n) i h t =
    let b = both (test (asked_of (n + 16))) (each n) t in
    elim (side i n) [ inl l ↦ of-each n i l b.1 | inr l ↦ let e : n ≡ i = omega arith in subst (λ (x : ℕ). Hold (asked_of (x + 16))) e (held (asked_of (n + 16)) b.0) ]

all_lines : T (each 48)
unfolding each
all_lines = tt

line-holds : (p : ℕ) → 16 ≤ p → p < 64 → Hold (asked_of p)
line-holds p f b = let e : p - 16 + 16 ≡ p = omega arith in subst (λ (x : ℕ). Hold (asked_of x)) e (of-each 48 (p - 16) (omega arith) all_lines)

-- ---- so each line is near over its part
module _ (n : ℕ) (from : 2 ^ 60 ≤ n) (below : n < 2 ^ 62) where
  abbrev p : ℕ
  p = part_of n

  abbrev l : ℕ
  l = line_of p

  holds : Hold (asked_of p)
  holds = line-holds p (omega arith) (omega arith)

  begins : p * 2 ^ 17 ≤ n / 2 ^ 39
  begins = omega arith

  ends : n / 2 ^ 39 ≤ p * 2 ^ 17 + (2 ^ 17 - 1)
  ends = omega arith

  pub line-is-near : NearLine n (line_at n)
  line-is-near = record {
    above = not-below l (l % 4096) (p * 2 ^ 17) n begins ends (holds 4);
    under = not-above l (l % 4096) (p * 2 ^ 17) n begins ends (holds 5) (holds 6);
  }

  pub line-inside : Inside n (line_at n)
  line-inside = within l (l % 4096) (p * 2 ^ 17) n begins ends (omega arith) (holds 0) (holds 1) (holds 2) (holds 3)
