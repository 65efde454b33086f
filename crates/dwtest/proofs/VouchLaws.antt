-- What vouches for a result: a refusal needs nothing, and every answer reports the statistic that was asked of. So where that is sure, each result is vouched for. Assumes nothing.
use mathlib.Core.Path.{◌≡◌, refl, sym, subst}
use mathlib.Core.Bool.{Bool, true, false, cond}
use Prim.Native.Nat.{ℕ}
use mathlib.Core.List.{List}
use lib.Dec.{ltb}
use lib.Ieee.{Float}
use Rattle.floats.specs.Words.{plus_zero, one}
use Rattle.autocorrelation.specs.Bound.{Sure}
use Rattle.std.specs.Prelude.{Result, Ok, Err}
use Rattle.design.specs.Law.{too_few_for_law}
use Rattle.design.specs.declared.LawError.{LawError}
use Rattle.elementary.specs.declared.NormalLaw.{NormalLaw}
use Rattle.eigen.specs.declared.Numbers.{Numbers}
use Rattle.eigen.specs.declared.SpectrumError.{SpectrumError}
use Rattle.imhof.specs.Imhof.{imhof_of}
use Rattle.imhof.specs.declared.Estimate.{Estimate}
use Rattle.imhof.specs.declared.ExactError.{ExactError}
use Rattle.imhof.specs.declared.ExactError.TheVariants.{NoWeight, NotFinite}
use Rattle.outcome.specs.Refusals.{passes, first_of, refusal_of, spectrum_error, law_error, rooms_of}
use Rattle.outcome.specs.Result.{path_number, least_rows, wants_exact, no_law, fallen_back, refused_of, accepted_of}
use Rattle.outcome.specs.declared.Asked.{Asked}
use Rattle.outcome.specs.declared.Choice.{Choice}
use Rattle.outcome.specs.declared.Leaving.{Leaving}
use Rattle.outcome.specs.declared.Path.TheVariants as path
use Rattle.outcome.specs.declared.Refusal.{Refusal}
use Rattle.outcome.specs.declared.refusals.TestError.{TestError}
use Rattle.outcome.proofs.PassLaws.{reason-refuses}
use Rattle.dwtest.specs.Layout.{Layout, design_checks, layout_of}
use Rattle.dwtest.specs.Verdict.{to_law, by_imhof, by_spectrum, by_law, finish}
use Rattle.dwtest.specs.Test.{said_by, exact_by, answer_of, design_of}
use Rattle.dwtest.specs.Vouched.{SureIf, Vouched}
use Rattle.dwtest.specs.declared.Way.TheVariants as way
use Rattle.dwtest.specs.declared.verdict.Said.TheVariants.{Answered, LawDue}

module _ (e : List Float) where
  pub refused-vouched : (r : Refusal) → passes r ≡ false → Vouched (refused_of r) e
  refused-vouched r h = subst (λ (b : Bool). SureIf b plus_zero e) (sym h) tt

  pub reason-vouched : (why : TestError) → Vouched (refused_of (refusal_of why)) e
  reason-vouched why = refused-vouched (refusal_of why) (reason-refuses why)

  module _ (asked : Asked) (sure : Sure asked.statistic e) (found : Result NormalLaw LawError) where
    by-law : (l : Result NormalLaw LawError) (left : Leaving) → Vouched (by_law l asked left) e
    by-law (Ok l) left = sure
    by-law (Err why) left = reason-vouched (law_error why)

    to-law : (left : Leaving) → Vouched (finish found asked (to_law asked left)) e
    to-law left = go (too_few_for_law asked.rows)
      where
        go : (b : Bool) → Vouched (finish found asked (cond b (Answered (accepted_of asked one (path_number path.FewForLaw) left no_law)) (LawDue left))) e
        go true = sure
        go false = by-law found left

    by-imhof : (q : Result Estimate ExactError) (s : Numbers) → Vouched (finish found asked (by_imhof q s asked)) e
    by-imhof (Ok q) s = sure
    by-imhof (Err NoWeight) s = to-law (fallen_back s)
    by-imhof (Err NotFinite) s = tt

    by-spectrum : (s : Result Numbers SpectrumError) (kept : List Float) → Vouched (finish found asked (by_spectrum s kept asked)) e
    by-spectrum (Err why) kept = reason-vouched (spectrum_error why)
    by-spectrum (Ok s) kept = by-imhof (imhof_of kept asked.statistic).answer s

  module _ (wanted : ℕ → ℕ) (x : List Float) (n k : ℕ) (asked : Asked) (choice : Choice) (matrix parts : ℕ) (sure : Sure asked.statistic e) where
    answer-vouched : (l : Layout) → Vouched (answer_of wanted n l asked choice matrix parts) e
    answer-vouched l = go (ltb n least_rows) (wants_exact choice n) (rooms_of (wanted n) matrix parts)
      where
        go : (f w : Bool) (r : Result (Unit {0}) TestError) → Vouched (finish l.law asked (said_by (cond f (Ok way.Few) (cond w (exact_by r) (Ok way.Normal))) l asked)) e
        go true w r = sure
        go false true (Ok suffice) = by-spectrum asked sure l.law l.spectrum l.kept
        go false true (Err why) = reason-vouched why
        go false false r = to-law asked sure l.law _

    -- what the columns and the statistic decide
    pub design-vouched : Vouched (design_of wanted x n k asked choice matrix parts) e
    unfolding design_of
    design-vouched = go (passes (first_of (design_checks x n k))) refl
      where
        go : (b : Bool) → passes (first_of (design_checks x n k)) ≡ b
            → Vouched (cond b (answer_of wanted n (layout_of x n k) asked choice matrix parts) (refused_of (first_of (design_checks x n k)))) e
        go true h = answer-vouched (layout_of x n k)
        go false h = refused-vouched (first_of (design_checks x n k)) h
