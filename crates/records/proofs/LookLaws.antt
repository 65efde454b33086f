-- What a look at the first n records finds: the sums and the place of the greatest error of those n parts, as the stages have them. One idea: the look keeps the
-- greatest record beside its place, so it never reads a record twice. Assumes nothing.
use mathlib.Core.Path.{◌≡◌, refl, sym, ap, ap₂, ◌∙◌}
use mathlib.Core.Bool.{Bool, true, false, cond}
use mathlib.Core.List.{List, map}
use Prim.Native.Nat.{ℕ, zero, suc, ◌+◌, ◌≤◌, ◌<◌}
use native.Mathlib.Numerals.{add-one}
use native.Mathlib.Omega.{arith}
use lib.ListN.{length, take, get_or, length-map, get_or-map}
use lib.Seq.{length-take-le, get_or-take}
use lib.Ieee.{Float, nan}
use Rattle.floats.specs.Words.{◌‼◌}
use Rattle.floats.specs.Signs.{before}
use Rattle.floats.specs.Sums.{sum_of, sum_run}
use Rattle.floats.specs.Turns.{turns}
use Rattle.floats.proofs.ListLaws.{sum_same}
use Rattle.imhof.specs.declared.Part.{Part}
use Rattle.imhof.specs.Parts.{part_at, values_of, errors_of, last_greatest, worst_of}
use Rattle.records.specs.Records.{unseen_of, noted_of, look_of}

-- what stands past the end
abbrev pub no_part : Part
no_part = record { lo = nan; hi = nan; value = nan; error = nan }

pub look_none : (ps : List Part) → unseen_of (part_at ps 0) ≡ look_of ps 0
unfolding look_of turns
look_none ps = refl

pub look-next : (ps : List Part) (i : ℕ) → noted_of (look_of ps i) i (part_at ps i) ≡ look_of ps (i + 1)
unfolding look_of turns
look-next ps i = ap (look_of ps) (sym (add-one i))

one_of : (c : Bool) (a b n : ℕ) → a < n → b < n → cond c a b < n
one_of true a b n ha hb = ha
one_of false a b n ha hb = hb

-- the place of the greatest error is one of the places looked at
pub worst-below : (ps : List Part) (n : ℕ) → 0 < n → (look_of ps n).worst < n
unfolding look_of turns
worst-below ps zero h = elim h [ ]
worst-below ps (suc zero) h = one_of (before (part_at ps 0).error (part_at ps 0).error) 0 0 1 h h
worst-below ps (suc (suc k)) h =
    let g = worst-below ps (suc k) (omega arith) in
    one_of (before (part_at ps (suc k)).error (look_of ps (suc k)).greatest.error) (look_of ps (suc k)).worst (suc k) (suc (suc k)) (omega (arith, g)) (omega arith)

-- the record kept is the one at the place kept
part_of : (c : Bool) (ps : List Part) (a b : ℕ) → cond c (part_at ps a) (part_at ps b) ≡ part_at ps (cond c a b)
part_of true ps a b = refl
part_of false ps a b = refl

greatest-is : (ps : List Part) (n : ℕ) → (look_of ps n).greatest ≡ part_at ps (look_of ps n).worst
unfolding look_of turns
greatest-is ps zero = refl
greatest-is ps (suc k) =
    ap (λ (p : Part). cond (before (part_at ps k).error (look_of ps k).greatest.error) p (part_at ps k)) (greatest-is ps k)
    ∙ part_of (before (part_at ps k).error (look_of ps k).greatest.error) ps (look_of ps k).worst k

values-sum : (ps : List Part) (n : ℕ) → (look_of ps n).value ≡ sum_of n (λ t. (part_at ps t).value)
unfolding look_of turns sum_of
values-sum ps zero = refl
values-sum ps (suc k) = rw (values-sum ps k)

errors-sum : (ps : List Part) (n : ℕ) → (look_of ps n).error ≡ sum_of n (λ t. (part_at ps t).error)
unfolding look_of turns sum_of
errors-sum ps zero = refl
errors-sum ps (suc k) = rw (errors-sum ps k)

-- ---- against the first n parts as a list of their own
module _ (ps : List Part) (n : ℕ) (inside : n ≤ length ps) where
  abbrev front : List Part
  front = take n ps

  length-field : (g : Part → Float) → length (map g front) ≡ n
  length-field g = length-map front g ∙ length-take-le n ps inside

  read-field : (g : Part → Float) → g no_part ≡ nan → (t : ℕ) → t < n → map g front ‼ t ≡ g (part_at ps t)
  read-field g e t h = ap (get_or (map g front) t) (sym e) ∙ get_or-map g front t no_part ∙ ap g (get_or-take n ps t no_part h)

  sum-field : (g : Part → Float) → g no_part ≡ nan → sum_of n (λ t. g (part_at ps t)) ≡ sum_run (map g front)
  sum-field g e = sum_same n (λ t. g (part_at ps t)) (λ t. map g front ‼ t) (λ t h. sym (read-field g e t h)) ∙ ap (λ (k : ℕ). sum_of k (λ t. map g front ‼ t)) (sym (length-field g))

  pub look-value : (look_of ps n).value ≡ sum_run (values_of front)
  look-value = values-sum ps n ∙ sum-field (λ p. p.value) refl

  pub look-error : (look_of ps n).error ≡ sum_run (errors_of front)
  look-error = errors-sum ps n ∙ sum-field (λ p. p.error) refl

  abbrev es : List Float
  es = errors_of front

  worst-to : (k : ℕ) → k ≤ n → 0 < n → (look_of ps k).worst ≡ turns k (λ i w. cond (before (es ‼ i) (es ‼ w)) w i) 0
  unfolding look_of turns
  worst-to zero h z = refl
  worst-to (suc k) h z =
      let here : (part_at ps k).error ≡ es ‼ k = sym (read-field (λ p. p.error) refl k (omega arith)) in
      let low : (look_of ps k).worst < n = below k (omega arith) in
      let there : (look_of ps k).greatest.error ≡ es ‼ (look_of ps k).worst = ap (λ (p : Part). p.error) (greatest-is ps k) ∙ sym (read-field (λ p. p.error) refl (look_of ps k).worst low) in
      ap₂ (λ (x y : Float). cond (before x y) (look_of ps k).worst k) here there ∙ ap (λ (w : ℕ). cond (before (es ‼ k) (es ‼ w)) w k) (worst-to k (omega arith) z)
    where
      below : (j : ℕ) → j < n → (look_of ps j).worst < n
      below zero h = z
      below (suc j) h = let g = worst-below ps (suc j) (omega arith) in omega (arith, g, h)

  module _ (some-parts : 0 < n) where
    pub look-worst : (look_of ps n).worst ≡ worst_of front
    unfolding last_greatest
    look-worst = worst-to n (omega arith) some-parts ∙ ap (λ (k : ℕ). turns k (λ i w. cond (before (es ‼ i) (es ‼ w)) w i) 0) (sym (length-field (λ p. p.error)))

    pub look-greatest : (look_of ps n).greatest ≡ part_at front (worst_of front)
    look-greatest =
        greatest-is ps n ∙ sym (get_or-take n ps (look_of ps n).worst no_part (worst-below ps n some-parts)) ∙ ap (part_at front) look-worst
