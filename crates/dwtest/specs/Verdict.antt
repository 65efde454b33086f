-- WHAT THE STATISTIC DECIDES, of the statistic, the alternative and the number of rows that are asked: from the eigenvalues, and from the law where that is due.
-- Definitions only. Assumes nothing.
use Rattle.std.specs.Prelude.{◌≤◌, cond, List, [], length, take, Float, Result, Ok, Err}
use Rattle.floats.specs.Words.{one}
use Rattle.floats.specs.Limits.{max_rows}
use Rattle.design.specs.Law.{too_few_for_law}
use Rattle.design.specs.declared.LawError.{LawError}
use Rattle.elementary.specs.declared.NormalLaw.{NormalLaw}
use Rattle.eigen.specs.declared.Numbers.{Numbers}
use Rattle.eigen.specs.declared.SpectrumError.{SpectrumError}
use Rattle.imhof.specs.Imhof.{imhof_of}
use Rattle.imhof.specs.declared.Estimate.{Estimate}
use Rattle.imhof.specs.declared.ExactError.{ExactError}
use Rattle.imhof.specs.declared.ExactError.TheVariants.{NoWeight, NotFinite}
use Rattle.outcome.specs.P.{exact_p, normal_p}
use Rattle.outcome.specs.Refusals.{not_finite, refusal_of, spectrum_error, law_refusal}
use Rattle.outcome.specs.Result.{path_number, no_law, fallen_back, worked_out, refused_of, accepted_of}
use Rattle.outcome.specs.declared.Asked.{Asked}
use Rattle.outcome.specs.declared.Leaving.{Leaving}
use Rattle.outcome.specs.declared.Outcome.{Outcome}
use Rattle.outcome.specs.declared.Path.TheVariants as path
use Rattle.outcome.specs.declared.refusals.TestError.{TestError}
use Rattle.dwtest.specs.Layout.{Layout}
use Rattle.dwtest.specs.declared.verdict.Said.{Said}
use Rattle.dwtest.specs.declared.verdict.Said.TheVariants.{Answered, LawDue}

-- ---- before any law is worked out: an answer, or that the law is due with what the exact way leaves to it
-- of a step that says so, or why the sheet is refused
abbrev pub said_in : Result Said TestError → Said
said_in (Ok said) = said
said_in (Err why) = Answered (refused_of (refusal_of why))

-- path 4, where there are too few rows for a law and p is 1; else path 3 is due
abbrev pub to_law : Asked → Leaving → Said
to_law asked left = cond (too_few_for_law asked.rows) (Answered (accepted_of asked one (path_number path.FewForLaw) left no_law)) (LawDue left)

-- path 2 by Imhof's probability, which is the lower tail; 13, stage 4; or the fallback, where no weight is left
abbrev pub by_imhof : Result Estimate ExactError → Numbers → Asked → Said
by_imhof (Err NoWeight) s asked = to_law asked (fallen_back s)
by_imhof (Err NotFinite) s asked = Answered (refused_of (not_finite 4))
by_imhof (Ok q) s asked = Answered (accepted_of asked (exact_p q.probability asked.alternative) (path_number path.Imhof) (worked_out s q) no_law)

-- from the eigenvalues that are kept; 13, stages 2 and 3
abbrev pub by_spectrum : Result Numbers SpectrumError → List Float → Asked → Said
by_spectrum (Err why) kept asked = Answered (refused_of (refusal_of (spectrum_error why)))
by_spectrum (Ok s) kept asked = by_imhof (imhof_of kept asked.statistic).answer s asked

-- ---- with the law
-- path 3; 13, stage 5, and 14
abbrev pub by_law : Result NormalLaw LawError → Asked → Leaving → Outcome
by_law (Ok l) asked left = accepted_of asked (normal_p l asked.statistic asked.alternative) (path_number path.Law) left l
by_law (Err why) asked left = refused_of (law_refusal (Err why))

abbrev pub finish : Result NormalLaw LawError → Asked → Said → Outcome
finish found asked (Answered o) = o
finish found asked (LawDue left) = by_law found asked left

-- ---- the normal way, with what the exact one leaves to it; and the exact way
unfoldable pub normal_path : Layout → Asked → Leaving → Outcome
normal_path l asked left = finish l.law asked (to_law asked left)

unfoldable pub exact_path : Layout → Asked → Outcome
exact_path l asked = finish l.law asked (by_spectrum l.spectrum l.kept asked)

-- ---- eigenvalues at the front of a run
abbrev pub kept_in : Result Numbers SpectrumError → List Float → List Float
kept_in (Err why) run = []
kept_in (Ok s) run = take s.count run

-- the run has as many as are counted, and no sheet has more
abbrev pub Counted : Result Numbers SpectrumError → List Float → Type 0
Counted (Err why) run = Unit
Counted (Ok s) run = (s.count ≤ length run) × (s.count ≤ max_rows)
