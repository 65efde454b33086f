-- The quadrature over records gives what the stages give, and so what the four-run form gives: after k turns the first k + 1 records are the parts of stage k while it is open, and
-- once the stage is settled or refused the course says so. One idea: both walk the same steps, so it is one induction on the turns. Assumes nothing.
use mathlib.Core.Path.{◌≡◌, refl, sym, ap, ap₂, ◌∙◌}
use mathlib.Core.Logic.{◌⊎◌, inl, inr, ⊎_elim}
use mathlib.Core.Bool.{Bool, true, false, ◌&&◌}
use mathlib.Core.List.{List, [], ◌∷◌, ◌++◌, append_assoc}
use Prim.Native.Nat.{ℕ, zero, suc, ◌+◌, ◌-◌, ◌≤◌, ◌<◌}
use native.Mathlib.Nat.{eq-or-lt_of_le}
use native.Mathlib.Numerals.{add-one}
use native.Mathlib.Omega.{arith}
use lib.ListN.{length, take, set, length-set}
use lib.Seq.{take-suc-set, take-set-lt, take-set-le, take-take, set_out, length-take-le, get_or-take}
use lib.Ieee.{Float, le}
use Rattle.floats.specs.Sums.{sum_run}
use Rattle.floats.specs.Count.{no_work, one_bisection}
use Rattle.floats.specs.declared.tally.Tally.{Tally}
use Rattle.imhof.specs.declared.Part.{Part}
use Rattle.std.specs.Prelude.{Ok}
use Rattle.imhof.specs.Quadrature.{Quadrature, broken}
use Rattle.imhof.specs.declared.Standing.TheVariants.{Open, Settled, Refused}
use Rattle.imhof.specs.Imhof.{quadrature_of}
use Rattle.imhof.specs.Rule.{gk15_of}
use Rattle.imhof.specs.Parts.{most_bisections, most_parts, part_at, values_of, errors_of, worst_of, without, left_half, right_half, bisected_at, finite_part, Stage, stage, tolerance, one_rule, next_stage, stage_after}
use Rattle.imhof.proofs.StageLaws.{next-settled, next-bisected, next-refused, stays-settled, stays-refused, first-open, first-broken, stage-next}
use Rattle.records.specs.declared.look.Look.{Look}
use Rattle.records.specs.Records.{look_of, sums_of, split_of, going, done, Work, work, start_by, found_of}
use Rattle.records.proofs.LookLaws.{no_part, look-value, look-error, look-worst, look-greatest, worst-below}
use Rattle.records.proofs.WorkLaws.{finite_halves, after, work-none, turn-full, turn-small, turn-broken, turn-halved, stays-done, kept}

-- ---- the three stores of a bisection, seen in the first records

-- a store at w among the first m + 1 records, of the last of them
move-last : (l : List Part) (w m : ℕ) (v : Part) → w ≤ m → m < length l → take m (set l w v) ≡ set (take m l) w v
move-last l w m v h inside =
    ⊎_elim (λ e. take-set-le m l w v (omega arith) ∙ sym (set_out (take m l) w v (let z = length-take-le m l (omega arith) in omega (arith, z))))
    (λ less. take-set-lt m l w v less) (eq-or-lt_of_le {n = w} {m = m} h)

split-suc : (l : List Part) (w m : ℕ) (p q : Part) → w ≤ m → suc m < length l → take (suc (suc m)) (set (set (set l w (part_at l m)) m p) (suc m) q) ≡ set (take m l) w (part_at l m) ++ (p ∷ q ∷ [])
split-suc l w m p q h inside =
    take-suc-set (set (set l w (part_at l m)) m p) (suc m) q (simp length-set inside)
    ∙ ap (λ (z : List Part). z ++ (q ∷ [])) (take-suc-set (set l w (part_at l m)) m p (simp length-set (omega arith)))
    ∙ append_assoc (take m (set l w (part_at l m))) (p ∷ []) (q ∷ [])
    ∙ ap (λ (z : List Part). z ++ (p ∷ q ∷ [])) (move-last l w m (part_at l m) h (omega arith))

-- the first m + 1 records without record w
without-front : (l : List Part) (w m : ℕ) → suc m < length l → without w (take (suc m) l) ≡ set (take m l) w (part_at l m)
without-front l w m inside =
    let z = length-take-le (suc m) l (omega arith) in
    let e : length (take (suc m) l) - 1 ≡ m = omega (arith, z) in
    ap (λ (k : ℕ). set (take k (take (suc m) l)) w (part_at (take (suc m) l) k)) e
    ∙ ap₂ (λ (y : List Part) (v : Part). set y w v) (take-take m (suc m) l (omega arith)) (get_or-take (suc m) l m no_part (omega arith))

less_one : (k : ℕ) → k + 1 - 1 ≡ k
less_one k = omega arith

pub split-front : (l : List Part) (w k : ℕ) (p q : Part) → w < k + 1 → k + 1 < length l → take (k + 1 + 1) (split_of l (k + 1) w p q) ≡ without w (take (k + 1) l) ++ (p ∷ q ∷ [])
split-front l w k p q h inside = rw (less_one k, add-one (k + 1), add-one k) (split-suc l w k p q (omega arith) (omega arith) ∙ ap (λ (z : List Part). z ++ (p ∷ q ∷ [])) (sym (without-front l w k (omega arith))))

-- ---- turn by turn

module _ (f : Float → Float) (a b : Float) (ys : List Part) (room : most_parts ≤ length ys) where
  abbrev W : ℕ → Work
  W k = after f a b ys k

  abbrev S : ℕ → Stage
  S k = stage_after k f a b

  -- stage k is open, and its parts are the first k + 1 records; or it will not change, and the work is done with what it stands for
  abbrev Going : ℕ → Type 0
  Going k = (t : Tally) × (ps : List Part) × (W k ≡ work (going t) ps) × (S k ≡ stage (take (k + 1) ps) t Open)

  abbrev Shut : ℕ → Type 0
  Shut k = (q : Quadrature) × (ps : List Part) × (W k ≡ work (done q) ps) × (q ≡ quadrature_of (S k)) × (next_stage f (S k) ≡ S k)

  abbrev whole : Part
  whole = gk15_of f a b

  at_first : (fine : Bool) → finite_part whole ≡ fine → Going 0 ⊎ Shut 0
  at_first true e =
      inl (
        one_rule no_work,
        set ys 0 whole,
        sym (work-none f a b ys) ∙ ap (λ (t : Bool). work (start_by t) (set ys 0 whole)) e,
        first-open f a b e ∙ ap (λ (l : List Part). stage l (one_rule no_work) Open) (sym (take-suc-set ys 0 whole (omega arith))),
      )
  at_first false e =
      let s : S 0 ≡ stage [] no_work Refused = first-broken f a b e in
      inr (
        broken,
        set ys 0 whole,
        sym (work-none f a b ys) ∙ ap (λ (t : Bool). work (start_by t) (set ys 0 whole)) e,
        sym (ap quadrature_of s),
        ap (next_stage f) s ∙ stays-refused f [] no_work ∙ sym s,
      )

  -- one turn of an open stage over n = k + 1 records
  module _ (k : ℕ) (fit : k < most_parts) (t : Tally) (rs : List Part) (at : W k ≡ work (going t) rs) (opens : S k ≡ stage (take (k + 1) rs) t Open) where
    abbrev n : ℕ
    n = k + 1

    abbrev ps : List Part
    ps = take n rs

    abbrev l : Look
    l = look_of rs n

    inside : n ≤ length rs
    inside = let m : length rs ≡ length ys = ap (λ (w : Work). length w.records) (sym at) ∙ (kept f a b ys k).0 in omega (arith, m, room, fit)

    before-n : W (n - 1) ≡ work (going t) rs
    before-n = let e : n - 1 ≡ k = omega arith in ap W e ∙ at

    value-is : l.value ≡ sum_run (values_of ps)
    value-is = look-value rs n inside

    error-is : l.error ≡ sum_run (errors_of ps)
    error-is = look-error rs n inside

    worst-is : l.worst ≡ worst_of ps
    worst-is = look-worst rs n inside (omega arith)

    greatest-is : l.greatest ≡ part_at ps (worst_of ps)
    greatest-is = look-greatest rs n inside (omega arith)

    -- the sums of the look are the stage's
    told : Ok (sums_of l t) ≡ quadrature_of (stage ps t Open)
    told = ap₂ {C = Quadrature} (λ (x y : Float). Ok (record { value = x; error = y; tally = t })) value-is error-is

    -- no room for another bisection
    pub at-full : most_parts ≤ n → found_of (W n) ≡ quadrature_of (S k)
    at-full full = ap found_of (turn-full f a b ys n (omega arith) t rs before-n full) ∙ told ∙ ap quadrature_of (sym opens)

    module _ (space : n < most_parts) where
      next : S n ≡ next_stage f (stage ps t Open)
      next = stage-next f a b k ∙ ap (next_stage f) opens

      is-settled : le (sum_run (errors_of ps)) tolerance ≡ true → Going n ⊎ Shut n
      is-settled small =
          let s : S n ≡ stage ps t Settled = next ∙ next-settled f ps t small in
          inr (
            Ok (sums_of l t),
            rs,
            turn-small f a b ys n (omega arith) t rs before-n space (ap (λ (x : Float). le x tolerance) error-is ∙ small),
            told ∙ sym (ap quadrature_of s),
            ap (next_stage f) s ∙ stays-settled f ps t ∙ sym s,
          )

      module _ (large : le (sum_run (errors_of ps)) tolerance ≡ false) where
        wide : le l.error tolerance ≡ false
        wide = ap (λ (x : Float). le x tolerance) error-is ∙ large

        halves_are : finite_halves f l ≡ finite_part (left_half f (part_at ps (worst_of ps))) && finite_part (right_half f (part_at ps (worst_of ps)))
        halves_are = ap (λ (p : Part). finite_part (left_half f p) && finite_part (right_half f p)) greatest-is

        is-split : (fine : Bool) → finite_part (left_half f (part_at ps (worst_of ps))) && finite_part (right_half f (part_at ps (worst_of ps))) ≡ fine → Going n ⊎ Shut n
        is-split false e =
            let s : S n ≡ stage ps t Refused = next ∙ next-refused f ps t large e in
            inr (
              broken,
              rs,
              turn-broken f a b ys n (omega arith) t rs before-n space wide (halves_are ∙ e),
              sym (ap quadrature_of s),
              ap (next_stage f) s ∙ stays-refused f ps t ∙ sym s,
            )
        is-split true fine =
            let front : take (n + 1) (split_of rs n l.worst (left_half f l.greatest) (right_half f l.greatest)) ≡ bisected_at f (worst_of ps) ps =
            split-front rs l.worst k (left_half f l.greatest) (right_half f l.greatest) (worst-below rs n (omega arith)) (let m : length rs ≡ length ys = ap (λ (w : Work). length w.records) (sym at) ∙ (kept f a b ys k).0 in omega (arith, m, room, space))
            ∙ ap₂ (λ (w : ℕ) (p : Part). without w ps ++ (left_half f p ∷ right_half f p ∷ [])) worst-is greatest-is in
            let s : S n ≡ stage (bisected_at f (worst_of ps) ps) (one_rule (one_rule (one_bisection t))) Open = next ∙ next-bisected f ps t large fine in
            inl (
              one_rule (one_rule (one_bisection t)),
              split_of rs n l.worst (left_half f l.greatest) (right_half f l.greatest),
              turn-halved f a b ys n (omega arith) t rs before-n space wide (halves_are ∙ fine),
              s ∙ ap (λ (z : List Part). stage z (one_rule (one_rule (one_bisection t))) Open) (sym front),
            )

      on-small : (small : Bool) → le (sum_run (errors_of ps)) tolerance ≡ small → Going n ⊎ Shut n
      on-small true e = is-settled e
      on-small false e = is-split e (finite_part (left_half f (part_at ps (worst_of ps))) && finite_part (right_half f (part_at ps (worst_of ps)))) refl

      pub turn_on : Going n ⊎ Shut n
      turn_on = on-small (le (sum_run (errors_of ps)) tolerance) refl

  still-shut : (k : ℕ) → Shut k → Shut (k + 1)
  still-shut k h =
      let s : S (k + 1) ≡ S k = stage-next f a b k ∙ h.4 in
      (h.0, h.1, stays-done f a b ys k (k + 1) (omega arith) h.0 h.1 h.2, h.3 ∙ sym (ap quadrature_of s), ap (next_stage f) s ∙ h.4 ∙ sym s)

  matched : (k : ℕ) → k ≤ most_bisections → Going k ⊎ Shut k
  matched zero h = at_first (finite_part whole) refl
  matched (suc k) h =
      rw (← add-one k) (⊎_elim (λ g. turn_on k (omega arith) g.0 g.1 g.2 g.3 (omega arith)) (λ s. inr (still-shut k s)) (matched k (omega arith)))

  -- what the records give after most_parts turns is what the stages give after most_bisections
  pub same_answer : found_of (after f a b ys most_parts) ≡ quadrature_of (stage_after most_bisections f a b)
  same_answer =
      ⊎_elim (λ g. at-full most_bisections (omega arith) g.0 g.1 g.2 g.3 (omega arith))
      (λ s. ap found_of (stays-done f a b ys most_bisections most_parts (omega arith) s.0 s.1 s.2) ∙ s.3) (matched most_bisections (omega arith))
