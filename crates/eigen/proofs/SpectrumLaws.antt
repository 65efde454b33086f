-- From the values that the code holds, step by step, to the spectrum's definitions; and what is known of the kept numbers. Assumes nothing.
use mathlib.Core.Path.{◌≡◌, refl, sym, ap, ◌∙◌}
use Prim.Native.Nat.{ℕ, ◌+◌, ◌-◌, ◌≤◌}
use native.Mathlib.Omega.{arith}
use mathlib.Core.List.{List, [], ◌++◌, append-nil}
use lib.Ieee.{Float}
use Rattle.std.specs.Prelude.{Option, Some, None, Result, Ok, Err}
use Rattle.floats.specs.Tables.{triangle}
use Rattle.floats.specs.Limits.{matrix_room}
use Rattle.floats.specs.Matrix.{entry, whole, half_of}
use lib.ListN.{length, take, drop, drop_of_length-le}
use lib.Seq.{take_at, drop_at, drop-drop, take-append-le}
use mathlib.Core.Bool.{Bool, true, false, true≢false}
use Rattle.std.specs.Option.{is_some}
use Rattle.floats.proofs.HalfLaws.{triangle-twice, length-half, length_whole, whole-symmetric, whole-half, half-symmetric, half-finite, half-not-finite}
use Rattle.tridiagonal.proofs.ReflectionLaws.{tridiagonal-long, tridiagonal-symmetric}
use Rattle.floats.specs.Count.{no_work}
use Rattle.floats.specs.Search.{first_bad}
use Rattle.floats.specs.declared.tally.Tally.{Tally}
use Rattle.projection.specs.Projection.{product, residual_maker, mam_of}
use Rattle.tridiagonal.specs.Reflection.{tridiagonal_of}
use Rattle.tridiagonal.specs.Bands.{diagonal_of, couplings_of}
use Rattle.ql.specs.Ql.{ql_of, stuck_of}
use Rattle.eigen.specs.Kept.{falling, large, kept_of}
use Rattle.eigen.specs.Spectrum.{bands_worked, bands_stuck, worked_of, numbers_of, delivered_of, delivered_numbers, spectrum_of, kept_numbers, front_of, kept_by, kept_from, spectrum_by, numbers_by, front_by}
use Rattle.eigen.specs.declared.Numbers.{Numbers}
use Rattle.eigen.specs.declared.SpectrumError.{SpectrumError}
use Rattle.eigen.specs.declared.SpectrumError.TheVariants.{MatrixNotFinite, NumberNotFinite}
use Rattle.eigen.proofs.OrderLaws.{length-falling}
use Rattle.eigen.proofs.KeptLaws.{kept-few}

-- the bands of the lent matrix, the QL step on them, and whether an index of it had a coupling left
module _ (n : ℕ) (room t d₀ e₀ d e : List Float) (w : Tally) (l : length t ≡ triangle n) (p : length d₀ ≡ n) (q : length e₀ ≡ n) (z : w ≡ no_work) where
  abbrev lent : List Float
  lent = whole n (take (triangle n) room)

  abbrev reduced : List Float
  reduced = tridiagonal_of n lent

  worked-from : t ≡ half_of n reduced → d ≡ diagonal_of n (whole n (take (triangle n) (t ++ drop (triangle n) room))) ++ drop n d₀
      → e ≡ couplings_of n (whole n (take (triangle n) (t ++ drop (triangle n) room))) ++ drop n e₀ → (ql_of n n d e w ≡ worked_of n lent) × (stuck_of n n d e w ≡ bands_stuck n reduced)
  unfolding bands_worked bands_stuck
  worked-from g f k =
      let h = take (triangle n) room in
      let m : whole n (take (triangle n) (t ++ drop (triangle n) room)) ≡ reduced =
      ap (whole n) (take_at t (drop (triangle n) room) (triangle n) l ∙ g) ∙ whole-half n reduced (tridiagonal-long n lent (length_whole n h)) (tridiagonal-symmetric n lent (whole-symmetric n h)) in
      let u : length d₀ ≤ n = omega arith in
      let v : length e₀ ≤ n = omega arith in
      let x : d ≡ diagonal_of n reduced = f ∙ rw (m, drop_of_length-le d₀ u) (append-nil (diagonal_of n reduced)) in
      let y : e ≡ couplings_of n reduced = k ∙ rw (m, drop_of_length-le e₀ v) (append-nil (couplings_of n reduced)) in
      rw (x, y, z) (refl, refl)

  -- as the code has it, which works out where the triangle ends
  pub worked-is : (m : ℕ) → m ≡ triangle n + 0 → t ≡ half_of n (tridiagonal_of n (whole n (take m room))) → d ≡ diagonal_of n (whole n (take m (t ++ drop m room))) ++ drop n d₀
      → e ≡ couplings_of n (whole n (take m (t ++ drop m room))) ++ drop n e₀ → (t ≡ half_of n reduced) × (ql_of n n d e w ≡ worked_of n lent) × (stuck_of n n d e w ≡ bands_stuck n reduced)
  worked-is m o g f h = let x : m ≡ triangle n = omega arith in let y = rw x at g in let r = worked-from y (rw x at f) (rw x at h) in (y, r.0, r.1)

-- what a search found, by whether it found one
pub found-some : (o : Option ℕ) → is_some o ≡ true → (t : ℕ) × (o ≡ Some t)
found-some (Some t) e = (t, refl)
found-some None e = absurd (true≢false (sym e))

pub found-none : (o : Option ℕ) → is_some o ≡ false → o ≡ None
found-none (Some t) e = absurd (true≢false e)
found-none None e = refl

-- one of the numbers is not finite
pub number-bad : (n k : ℕ) (b : List Float) (t : ℕ) → first_bad (numbers_of n b) ≡ Some t → (delivered_of n k b ≡ Err NumberNotFinite) × (delivered_numbers n k b ≡ [])
unfolding delivered_of delivered_numbers
number-bad n k b t h = rw h (refl, refl)

-- what is kept
pub numbers-good : (n k : ℕ) (b d : List Float) → first_bad (numbers_of n b) ≡ None → d ≡ falling (numbers_of n b) n ++ drop n (numbers_of n b)
    → (delivered_of n k b ≡ Ok (record { count = length (large (take (n - k) d)); work = (worked_of n b).work; stuck = bands_stuck n (tridiagonal_of n b) })) × (delivered_numbers n k b ≡ large (take (n - k) d))
unfolding delivered_of delivered_numbers kept_of
numbers-good n k b d h e =
    let s : take (n - k) d ≡ take (n - k) (falling (numbers_of n b) n) = ap (take (n - k)) e ∙ take-append-le (n - k) (falling (numbers_of n b) n) (drop n (numbers_of n b)) (within n k (length-falling (numbers_of n b) n)) in
    rw (h, s) (refl, refl)
  where
    within : (n k : ℕ) {m : ℕ} → m ≡ n → n - k ≤ m
    within n k h = omega arith

-- an entry of M A M is not finite; and where all are, what the QL step delivers. The lower triangle decides which
module _ (x : List Float) (inverse : List (List Float)) (n k : ℕ) where
  pub matrix-bad : (t : ℕ) → first_bad (half_of n (mam_of x inverse n k)) ≡ Some t
      → (spectrum_of x inverse n k ≡ Err MatrixNotFinite) × (kept_numbers x inverse n k ≡ []) × (front_of x inverse n k ≡ half_of n (mam_of x inverse n k))
  unfolding spectrum_of kept_numbers front_of
  matrix-bad t h = go (first_bad (mam_of x inverse n k)) refl
    where
      go : (f : Option ℕ) → first_bad (mam_of x inverse n k) ≡ f → (spectrum_of x inverse n k ≡ Err MatrixNotFinite) × (kept_numbers x inverse n k ≡ []) × (front_of x inverse n k ≡ half_of n (mam_of x inverse n k))
      go (Some u) e = rw e (refl, refl, refl)
      go None e = absurd (half-not-finite n (product x inverse n k) t (ap first_bad (sym (half-symmetric n (product x inverse n k))) ∙ h) e)

  pub matrix-good : first_bad (half_of n (mam_of x inverse n k)) ≡ None
      → (spectrum_of x inverse n k ≡ delivered_of n k (mam_of x inverse n k)) × (kept_numbers x inverse n k ≡ delivered_numbers n k (mam_of x inverse n k)) × (front_of x inverse n k ≡ half_of n (tridiagonal_of n (mam_of x inverse n k)))
  unfolding spectrum_of kept_numbers front_of
  matrix-good h = rw (half-finite n (product x inverse n k) (ap first_bad (sym (half-symmetric n (product x inverse n k))) ∙ h)) (refl, refl, refl)

-- ---- what callers use

numbers-within : (n k : ℕ) (b : List Float) → length (delivered_numbers n k b) ≤ n - k
unfolding delivered_numbers
numbers-within n k b = go (first_bad (numbers_of n b))
  where
    go : (f : Option ℕ) → length (kept_from f n k (numbers_of n b)) ≤ n - k
    go (Some t) = omega arith
    go None = kept-few (numbers_of n b) n k

-- at most n - k numbers are kept
pub kept-within : (x : List Float) (inverse : List (List Float)) (n k : ℕ) → length (kept_numbers x inverse n k) ≤ n - k
unfolding kept_numbers
kept-within x inverse n k = go (first_bad (mam_of x inverse n k))
  where
    go : (f : Option ℕ) → length (numbers_by f n k (mam_of x inverse n k)) ≤ n - k
    go (Some t) = omega arith
    go None = numbers-within n k (mam_of x inverse n k)

-- the count is how many there are, and the mark is whether a coupling was left
told-by : (f : Option ℕ) (n k : ℕ) (numbers : List Float) (work : Tally) (stuck : Bool) (s : Numbers) → kept_by f n k numbers work stuck ≡ Ok s → (s.count ≡ length (kept_from f n k numbers)) × (s.stuck ≡ stuck)
told-by (Some t) n k numbers work stuck s e = absurd (clash e)
  where
    clash : ◌≡◌ {A = Result Numbers SpectrumError} (Err NumberNotFinite) (Ok s) → ⊥
    clash q = let z : ◌≡◌ {A = ℕ} 0 1 = cc in omega arith
told-by None n k numbers work stuck s e = (sym (ap (λ (r : Numbers). r.count) (same e)), sym (ap (λ (r : Numbers). r.stuck) (same e)))
  where
    same : ◌≡◌ {A = Result Numbers SpectrumError} (Ok (record { count = length (kept_of numbers n k); work = work; stuck = stuck })) (Ok s) → ◌≡◌ {A = Numbers} (record { count = length (kept_of numbers n k); work = work; stuck = stuck }) s
    same q = cc

delivered-told : (n k : ℕ) (b : List Float) (s : Numbers) → delivered_of n k b ≡ Ok s → (s.count ≡ length (delivered_numbers n k b)) × (s.stuck ≡ bands_stuck n (tridiagonal_of n b))
unfolding delivered_of delivered_numbers
delivered-told n k b s e = told-by (first_bad (numbers_of n b)) n k (numbers_of n b) (worked_of n b).work (bands_stuck n (tridiagonal_of n b)) s e

pub kept-told : (x : List Float) (inverse : List (List Float)) (n k : ℕ) (s : Numbers) → spectrum_of x inverse n k ≡ Ok s
    → (s.count ≡ length (kept_numbers x inverse n k)) × (s.stuck ≡ bands_stuck n (tridiagonal_of n (mam_of x inverse n k)))
unfolding spectrum_of kept_numbers
kept-told x inverse n k s h = go (first_bad (mam_of x inverse n k)) h
  where
    clash : ◌≡◌ {A = Result Numbers SpectrumError} (Err MatrixNotFinite) (Ok s) → ⊥
    clash q = let z : ◌≡◌ {A = ℕ} 0 1 = cc in omega arith

    go : (f : Option ℕ) → spectrum_by f n k (mam_of x inverse n k) ≡ Ok s → (s.count ≡ length (numbers_by f n k (mam_of x inverse n k))) × (s.stuck ≡ bands_stuck n (tridiagonal_of n (mam_of x inverse n k)))
    go (Some t) e = absurd (clash e)
    go None e = delivered-told n k (mam_of x inverse n k) s e

-- ---- the room beyond its first n (n + 1) numbers stays

length_front : (x : List Float) (inverse : List (List Float)) (n k : ℕ) → length (front_of x inverse n k) ≡ triangle n
unfolding front_of
length_front x inverse n k = length-half (entry n (front_by (first_bad (mam_of x inverse n k)) n (mam_of x inverse n k))) n

pub beyond : (x : List Float) (inverse : List (List Float)) (n k : ℕ) (room end : List Float)
    → end ≡ front_of x inverse n k ++ (half_of n (residual_maker x inverse n k) ++ drop (matrix_room n) room) → drop (matrix_room n) end ≡ drop (matrix_room n) room
beyond x inverse n k room end h =
    ap (λ (m : ℕ). drop m end) (sym (triangle-twice n)) ∙ sym (drop-drop (triangle n) (triangle n) end)
    ∙ ap (λ e. drop (triangle n) (drop (triangle n) e)) h
    ∙ ap (drop (triangle n)) (drop_at (front_of x inverse n k) _ (triangle n) (length_front x inverse n k))
    ∙ drop_at (half_of n (residual_maker x inverse n k)) (drop (matrix_room n) room) (triangle n) (length-half (entry n (residual_maker x inverse n k)) n)
