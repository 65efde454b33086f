-- `root_of`, from any pattern b that √n lies on or above, and below the next: it is b or the next one, by the middle of the two. Assumes nothing.
use Rattle.std.proofs.Common.{◌≡◌, ℕ, zero, suc, ◌+◌, ◌-◌, ◌*◌, ◌/◌, ◌%◌, ◌^◌, ◌<◌, ◌≤◌, Bool, true, false, cond, not, T, eqb, leb, sym, refl, ap, ◌∙◌, subst, inl, inr, zero-le, le_trans, lt_of_lt_of_le, mul-le-mul_right, div-lt_iff_lt-mul, le_antisymm, mul-lt-mul_of_pos_right, pow-suc, lt_of_not-le, le-div_iff_mul-le, not-le_of_lt, arith, lit<, eqb→eq, leb→le, pow_pos, pow_mono, pow-add, leb-false, leb-true}
use Prim.Native.Nat.{compare, Ordering}
use lib.Dec.{is_le, compare_is_eq, nleb→lt, eqb_refl}
use lib.Ieee.{inf, binary64, size, nearest, units, of_bits}
use lib.Ieee.Digits.{size-lt, size-le, size_reaches}
use lib.Ieee.Fits.{nearest-le}
use lib.Ieee.Nearest.{nearest-ge}
use Rattle.roots.specs.Root.{IsRoot, root_in, isqrt, root_of}
use Rattle.roots.proofs.Squares.{four-power, root_ge, root-lt}
use Rattle.roots.specs.Patterns.{top, dropped, units_of}
use Rattle.roots.proofs.Ladder.{Leads, leads, above, units-beyond, units-rung}

-- ---- `isqrt n` is the whole part of √n: p is that of n / 4, and 2 * p or the next number that of n
more : (n p : ℕ) (b : Bool) → leb ((2 * p + 1) * (2 * p + 1)) n ≡ b → IsRoot (n / 4) p → IsRoot n (cond b (2 * p + 1) (2 * p))
more n p true e h = record { low = leb-true ((2 * p + 1) * (2 * p + 1)) n e; high = omega (arith, h.high) }
more n p false e h = record { low = omega (arith, h.low); high = leb-false ((2 * p + 1) * (2 * p + 1)) n e }

root_in-is : (k n : ℕ) → n < 4 ^ k → IsRoot n (root_in k n)
unfolding root_in
root_in-is zero n h = record { low = zero-le; high = h }
root_in-is (suc k) n h =
    let p = root_in k (n / 4) in
    more n p (leb ((2 * p + 1) * (2 * p + 1)) n) refl (root_in-is k (n / 4) ((div-lt_iff_lt-mul (lit< tt)).1 (rw (pow-suc 4 k) at h)))

pub isqrt-is : (n : ℕ) → IsRoot n (isqrt n)
unfolding isqrt
isqrt-is n =
    let j = suc (size n / 2) in
    let s : size n ≤ j + j = omega arith in
    root_in-is j n (lt_of_lt_of_le (size-lt n) (rw (four-power j, ← pow-add 2 j j) (pow_mono s)))

-- ---- what a comparison says
abbrev pub Ordered : ℕ → ℕ → Ordering → Type 0
Ordered a b Ordering.lt = a < b
Ordered a b Ordering.eq = a ≡ b
Ordered a b Ordering.gt = b < a

pub ordered : (a b : ℕ) → Ordered a b (compare a b)
ordered a b = go (compare a b) (leb→le a b) (nleb→lt a b) (eqb→eq a b) (λ e. subst (λ (x : ℕ). T (eqb a x)) e (eqb_refl a))
  where
    go : (o : Ordering) → (T (is_le o) → a ≤ b) → (T (not (is_le o)) → b < a) → (T (compare_is_eq o) → a ≡ b) → (a ≡ b → T (compare_is_eq o)) → Ordered a b o
    go Ordering.lt le gt eq is = let l : a ≤ b = le tt in let n : a ≡ b → ⊥ = is in omega arith
    go Ordering.eq le gt eq is = eq tt
    go Ordering.gt le gt eq is = gt tt

-- and what it is where that is known
pub decided : (a b : ℕ) (o : Ordering) → Ordered a b o → compare a b ≡ o
decided a b o h = go (compare a b) o (ordered a b) h
  where
    go : (o p : Ordering) → Ordered a b o → Ordered a b p → o ≡ p
    go Ordering.lt Ordering.lt h k = refl
    go Ordering.lt Ordering.eq h k = absurd (omega arith)
    go Ordering.lt Ordering.gt h k = absurd (omega arith)
    go Ordering.eq Ordering.lt h k = absurd (omega arith)
    go Ordering.eq Ordering.eq h k = refl
    go Ordering.eq Ordering.gt h k = absurd (omega arith)
    go Ordering.gt Ordering.lt h k = absurd (omega arith)
    go Ordering.gt Ordering.eq h k = absurd (omega arith)
    go Ordering.gt Ordering.gt h k = refl

-- both sides u times as large
pub compare-scaled : (a b u : ℕ) → 0 < u → compare (a * u) (b * u) ≡ compare a b
compare-scaled a b u p = decided (a * u) (b * u) (compare a b) (go (compare a b) (ordered a b))
  where
    go : (o : Ordering) → Ordered a b o → Ordered (a * u) (b * u) o
    go Ordering.lt h = mul-lt-mul_of_pos_right h p
    go Ordering.eq h = ap (λ (x : ℕ). x * u) h
    go Ordering.gt h = mul-lt-mul_of_pos_right h p

-- ---- how many digits of the root are dropped: w is its whole part
shed : (w q k : ℕ) → Leads q k → q < 2 ^ 53 → q * 2 ^ k ≤ w → w < (q + 1) * 2 ^ k → size w - 53 ≡ k
shed w q k l h lo hi =
    let most : size w ≤ 53 + k = size-le w (53 + k) (lt_of_lt_of_le hi (rw (pow-add 2 53 k) (mul-le-mul_right (2 ^ k) h'))) in
    elim l [
      | inl z ↦ omega arith
      | inr f ↦ let least : 52 + k < size w = reach (52 + k) (le_trans (rw (pow-add 2 52 k) (mul-le-mul_right (2 ^ k) f)) lo) in omega arith
    ]
  where
    h' : q + 1 ≤ 2 ^ 53
    h' = omega arith

    reach : (j : ℕ) → 2 ^ j ≤ w → j < size w
    reach j g = lt_of_not-le (λ (e : size w ≤ j). not-le_of_lt (lt_of_lt_of_le (size-lt w) (pow_mono e)) g)

-- the middle of two neighbours, doubled
abbrev pub middle : ℕ → ℕ
middle b = units_of b + units_of (suc b)

pub root_of-is : (n : ℕ) → let w = isqrt n in let k = size w - 53 in let mid = (2 * (w / 2 ^ k) + 1) * 2 ^ k in root_of n ≡ units binary64 false (nearest (w / 2 ^ k) (compare (4 * n) (mid * mid))) k
unfolding root_of
root_of-is n = refl

pub nearest-far : (q A : ℕ) (o : Ordering) → A % 2 ≡ 0 → nearest (A + q) o ≡ A + nearest q o
nearest-far q A Ordering.lt e = refl
nearest-far q A Ordering.eq e = omega arith
nearest-far q A Ordering.gt e = omega arith

pub root-rung : (n b : ℕ) → b < top → units_of b * units_of b ≤ n → n < units_of (suc b) * units_of (suc b) → root_of n ≡ of_bits binary64 (nearest b (compare (4 * n) (middle b * middle b)))
root-rung n b u lo hi =
    let w = isqrt n in
    let k = dropped b in
    let q = b - k * 2 ^ 52 in
    let o = compare (4 * n) (middle b * middle b) in
    let from : q * 2 ^ k ≤ w = root_ge (units_of b) (isqrt-is n) lo in
    let to : w < (q + 1) * 2 ^ k = root-lt ((q + 1) * 2 ^ k) (isqrt-is n) (rw (above b) at hi) in
    let e : size w - 53 ≡ k = shed w q k (leads b) (omega arith) from to in
    let less : w / 2 ^ k < q + 1 = (div-lt_iff_lt-mul (pow_pos k)).1 to in
    let d : w / 2 ^ k ≡ q = le_antisymm (omega arith) ((le-div_iff_mul-le (pow_pos k)).1 from) in
    let m : (2 * q + 1) * 2 ^ k ≡ middle b = rw (above b) (omega arith) in
    let least : q ≤ nearest q o = nearest-ge q o in
    let most : nearest q o ≤ suc q = nearest-le q o in
    let f : Leads (nearest q o) k = elim (leads b) [ inl z ↦ inl z | inr h ↦ inr (le_trans h least) ] in
    let s : b ≡ k * 2 ^ 52 + q = omega arith in
    root_of-is n ∙ rw (e, d, m) (units-rung (nearest q o) k f (omega arith) (omega arith)) ∙ ap (of_bits binary64) (sym (ap (λ (x : ℕ). nearest x o) s ∙ nearest-far q (k * 2 ^ 52) o (omega arith)))

-- from 2 ^ 2098 units on the root is beyond the range
pub root-beyond : (n : ℕ) → 2 ^ 2098 * 2 ^ 2098 ≤ n → root_of n ≡ inf false
root-beyond n h =
    let w = isqrt n in
    let k = size w - 53 in
    let o = compare (4 * n) ((2 * (w / 2 ^ k) + 1) * 2 ^ k * ((2 * (w / 2 ^ k) + 1) * 2 ^ k)) in
    let long : 2098 < size w = lt_of_not-le (λ (e : size w ≤ 2098). not-le_of_lt (lt_of_lt_of_le (size-lt w) (pow_mono e)) (root_ge (2 ^ 2098) (isqrt-is n) h)) in
    let s : 52 + k < size w = omega arith in
    let q : 2 ^ 52 ≤ w / 2 ^ k = (le-div_iff_mul-le (pow_pos k)).1 (rw (pow-add 2 52 k) at (size_reaches w (52 + k) s)) in
    let j : 2098 ≤ 52 + k = omega arith in
    let r : 2 ^ 2098 ≤ 2 ^ 52 * 2 ^ k = rw (pow-add 2 52 k) at (pow_mono j) in
    root_of-is n ∙ units-beyond (nearest (w / 2 ^ k) o) k (le_trans r (mul-le-mul_right (2 ^ k) (le_trans q (nearest-ge (w / 2 ^ k) o))))
