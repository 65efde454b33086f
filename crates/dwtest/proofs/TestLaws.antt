-- The test, case by case: which check refuses, or which path answers, and whether the rooms are used. Each case is one law that names its conditions.
-- `wanted` is how many numbers of matrix room n rows want. Assumes nothing.
use mathlib.Core.Path.{◌≡◌, refl, sym, ap, ◌∙◌}
use mathlib.Core.Bool.{Bool, true, false, cond, true≢false}
use Prim.Native.Nat.{ℕ}
use mathlib.Core.List.{List}
use lib.Dec.{ltb}
use lib.ListN.{length}
use lib.Ieee.{Float}
use Rattle.floats.specs.Words.{one}
use Rattle.autocorrelation.specs.Statistic.{durbin_watson_answer, value}
use Rattle.std.specs.Prelude.{Result, Ok, Err}
use Rattle.std.specs.Result.{IsErrAnd}
use Rattle.std.proofs.lemmas.Result.{err_from_is_err_and}
use Rattle.autocorrelation.specs.declared.StatisticError.{StatisticError}
use Rattle.columns.specs.Sheet.{columns_of}
use Rattle.columns.specs.declared.SheetSize.{SheetSize}
use Rattle.columns.specs.declared.ColumnsError.{ColumnsError}
use Rattle.design.specs.Matrix.{Matrix}
use Rattle.design.specs.Factor.{pivots_of}
use Rattle.design.specs.Inverse.{inverse_of}
use Rattle.design.specs.declared.FailedPivot.{FailedPivot}
use Rattle.design.specs.declared.LawError.{LawError}
use Rattle.elementary.specs.declared.NormalLaw.{NormalLaw}
use Rattle.outcome.specs.Refusals.{passed, passes, first_of, refusal_of, refusal_in, columns_refusal, statistic_refusal, rows_refusal, pivots_refusal, inverse_refusal, rooms_of, room_refusal}
use Rattle.outcome.specs.Result.{path_number, least_rows, wants_exact, no_law, direct, refused_of, outcome_in, accepted_of}
use Rattle.outcome.specs.declared.Alternative.{Alternative}
use Rattle.outcome.specs.declared.Asked.{Asked}
use Rattle.outcome.specs.declared.Choice.{Choice}
use Rattle.outcome.specs.declared.Outcome.{Outcome}
use Rattle.outcome.specs.declared.Path.TheVariants as path
use Rattle.outcome.specs.declared.refusals.TestError.{TestError}
use Rattle.outcome.proofs.PassLaws.{reason-refuses, inverse-alone}
use Rattle.dwtest.specs.Layout.{design_checks, Layout, layout_from, layout_of}
use Rattle.dwtest.specs.Verdict.{by_spectrum, finish, normal_path, exact_path}
use Rattle.dwtest.specs.declared.Way.TheVariants.{Few, Exact, Normal}
use Rattle.dwtest.specs.declared.verdict.Said.{Said}
use Rattle.dwtest.specs.Test.{asking, is_exact, exact_by, said_by, way_of, answer_of, design_of, design_touches, test_with, touched_with}

-- what is told of a test that ends with a reason
pub outcome-at : (r : Result Outcome TestError) (why : TestError) → IsErrAnd r (λ found. found ≡ why) → outcome_in r ≡ refused_of (refusal_of why)
outcome-at r why h = let p = err_from_is_err_and r h in rw (p.1, p.2) refl

-- past the pivots the columns' refusal is the inverse's
pub past-pivots : (x : List Float) (n k : ℕ) → pivots_of x n k ≡ Ok tt → first_of (design_checks x n k) ≡ inverse_refusal k (inverse_of x n k)
unfolding first_of
past-pivots x n k h = rw h (inverse-alone k (inverse_of x n k))

-- the exact way has room
pub exact-has-room : (wanted : ℕ → ℕ) (n : ℕ) (choice : Choice) (matrix parts : ℕ) → way_of wanted n choice matrix parts ≡ Ok Exact → passes (room_refusal (wanted n) matrix parts) ≡ true
exact-has-room wanted n choice matrix parts h = go (ltb n least_rows) (wants_exact choice n) (rooms_of (wanted n) matrix parts) h
  where
    go : (f w : Bool) (r : Result (Unit {0}) TestError) → cond f (Ok Few) (cond w (exact_by r) (Ok Normal)) ≡ Ok Exact → passes (refusal_in r) ≡ true
    go true w r e = absurd (true≢false (sym (ap is_exact e)))
    go false false r e = absurd (true≢false (sym (ap is_exact e)))
    go false true (Err why) e = absurd (true≢false (sym (ap is_exact e)))
    go false true (Ok suffice) e = refl

-- what is said of rooms that do not suffice, and of rooms that do
pub rooms-lack : (law : Result NormalLaw LawError) (l : Layout) (asked : Asked) (r : Result (Unit {0}) TestError) → passes (refusal_in r) ≡ false
    → (finish law asked (said_by (exact_by r) l asked) ≡ refused_of (refusal_in r)) × (is_exact (exact_by r) ≡ false)
rooms-lack law l asked (Ok suffice) h = absurd (true≢false h)
rooms-lack law l asked (Err why) h = (refl, refl)

pub rooms-suffice : (law : Result NormalLaw LawError) (l : Layout) (asked : Asked) (r : Result (Unit {0}) TestError) → passes (refusal_in r) ≡ true
    → (finish law asked (said_by (exact_by r) l asked) ≡ finish law asked (by_spectrum l.spectrum l.kept asked)) × (is_exact (exact_by r) ≡ true)
rooms-suffice law l asked (Ok suffice) h = (refl, refl)
rooms-suffice law l asked (Err why) h = absurd (true≢false (sym h ∙ reason-refuses why))

module _ (wanted : ℕ → ℕ) (x : List Float) (n k : ℕ) (asked : Asked) (choice : Choice) (matrix parts : ℕ) where
  -- what the columns and the statistic decide, and whether that uses the rooms
  abbrev pub Decided : Outcome → Bool → Type 0
  Decided o used = (design_of wanted x n k asked choice matrix parts ≡ o) × (design_touches wanted x n k choice matrix parts ≡ used)

  -- the columns are refused, or they pass
  pub design-refused : passes (first_of (design_checks x n k)) ≡ false → Decided (refused_of (first_of (design_checks x n k))) false
  unfolding design_of
  design-refused q = rw q (refl, refl)

  pub design-passes : passes (first_of (design_checks x n k)) ≡ true → Decided (answer_of wanted n (layout_of x n k) asked choice matrix parts) (is_exact (way_of wanted n choice matrix parts))
  unfolding design_of
  design-passes q = rw q (refl, refl)

  -- where an inverse is the columns' and nothing is refused, what is said of it decides
  pub design-said : (i : Matrix) (said : Said) → passed ≡ first_of (design_checks x n k) → i ≡ inverse_of x n k → said ≡ said_by (way_of wanted n choice matrix parts) (layout_from x n k i) asked
      → Decided (finish (layout_of x n k).law asked said) (is_exact (way_of wanted n choice matrix parts))
  design-said i said pass inv told =
      let s = design-passes (ap passes (sym pass)) in
      (s.0 ∙ sym (ap (finish (layout_of x n k).law asked) (told ∙ ap (λ i. said_by (way_of wanted n choice matrix parts) (layout_from x n k i) asked) inv)), s.1)

  -- 11
  pub pivot-fails : (p : Result (Unit {0}) FailedPivot) → pivots_of x n k ≡ p → passes (pivots_refusal p) ≡ false → Decided (refused_of (pivots_refusal p)) false
  unfolding design_of first_of
  pivot-fails p h q = rw (h, q, q) (refl, refl)

  module _ (i : Matrix) (hold : pivots_of x n k ≡ Ok tt) (inv : inverse_of x n k ≡ i) where
    -- 13, stage 1
    pub inverse-refused : passes (inverse_refusal k i) ≡ false → Decided (refused_of (inverse_refusal k i)) false
    unfolding design_of first_of
    inverse-refused q = rw (hold, inv, q, q) (refl, refl)

    module _ (q : passes (inverse_refusal k i) ≡ true) where
      -- path 1
      pub too_few : ltb n least_rows ≡ true → Decided (accepted_of asked one (path_number path.FewRows) direct no_law) false
      unfolding design_of first_of
      too_few r = rw (hold, inv, q, r) (refl, refl)

      -- paths 3 and 4
      pub by-normal : ltb n least_rows ≡ false → wants_exact choice n ≡ false → Decided (normal_path (layout_from x n k i) asked direct) false
      unfolding design_of normal_path first_of
      by-normal r w = rw (hold, inv, q, r, w) (refl, refl)

      -- 12
      pub no_room : ltb n least_rows ≡ false → wants_exact choice n ≡ true → passes (room_refusal (wanted n) matrix parts) ≡ false
          → Decided (refused_of (room_refusal (wanted n) matrix parts)) false
      unfolding design_of first_of
      no_room r w m = rw (hold, inv, q, r, w) (rooms-lack (layout_from x n k i).law (layout_from x n k i) asked (rooms_of (wanted n) matrix parts) m)

      -- path 2
      pub by-exact : ltb n least_rows ≡ false → wants_exact choice n ≡ true → passes (room_refusal (wanted n) matrix parts) ≡ true
          → Decided (exact_path (layout_from x n k i) asked) true
      unfolding design_of exact_path first_of
      by-exact r w m = rw (hold, inv, q, r, w) (rooms-suffice (layout_from x n k i).law (layout_from x n k i) asked (rooms_of (wanted n) matrix parts) m)

module _ (wanted : ℕ → ℕ) (e x : List Float) (k : ℕ) (alternative : Alternative) (choice : Choice) (matrix parts : ℕ) where
  -- what the test answers, and whether it uses the rooms
  abbrev pub Tested : Outcome → Bool → Type 0
  Tested o used = (test_with wanted e x k alternative choice matrix parts ≡ o) × (touched_with wanted e x k choice matrix parts ≡ used)

  -- 1 to 4
  pub columns-refused : (c : Result SheetSize ColumnsError) → columns_of x (length e) k ≡ c → passes (columns_refusal c) ≡ false → Tested (refused_of (columns_refusal c)) false
  unfolding test_with touched_with first_of
  columns-refused c h q = rw (h, q, q) (refl, refl)

  module _ (c : Result SheetSize ColumnsError) (h : columns_of x (length e) k ≡ c) (q : passes (columns_refusal c) ≡ true) (s : Result Float StatisticError) (g : durbin_watson_answer e ≡ s) where
    -- 5 to 9
    pub statistic-refused : passes (statistic_refusal s) ≡ false → Tested (refused_of (statistic_refusal s)) false
    unfolding test_with touched_with first_of
    statistic-refused r = rw (h, q, g, r, r) (refl, refl)

    module _ (r : passes (statistic_refusal s) ≡ true) where
      -- 10
      pub rows-refused : passes (rows_refusal (length e) k) ≡ false → Tested (refused_of (rows_refusal (length e) k)) false
      unfolding test_with touched_with first_of
      rows-refused m = rw (h, q, g, r, m, m) (refl, refl)

      -- what the columns and the statistic decide
      pub runs-pass : passes (rows_refusal (length e) k) ≡ true
          → Tested (design_of wanted x (length e) k (asking (value s) alternative (length e)) choice matrix parts) (design_touches wanted x (length e) k choice matrix parts)
      unfolding test_with touched_with first_of
      runs-pass m = rw (h, q, g, r, m) (refl, refl)
