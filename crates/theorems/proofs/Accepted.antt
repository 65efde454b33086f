-- What an outcome of the test can be. It is a refusal, or it was answered by one of the four paths; whatever holds of each of these holds of every outcome. From that: the
-- reported statistic is Durbin and Watson's, and is as near the exact quotient as demand 3 asks; every accepted p lies in 0 .. 1; the call is settled exactly when it is
-- accepted and its sweeps and its integral ended; and it fell back exactly when no weight was left and nothing is refused. Assumes nothing.
use mathlib.Core.Path.{◌≡◌, refl, sym, ap, ◌∙◌, subst}
use mathlib.Core.Bool.{Bool, true, false, not, ◌&&◌, ◌||◌, cond, true≢false}
use Prim.Native.Nat.{ℕ, ◌≤◌, ◌<◌}
use mathlib.Core.List.{List, [], ◌∷◌}
use lib.Dec.{T, ltb}
use lib.ListN.{length}
use lib.Ieee.{Float, nan, inf, fin, is_nan, le, lt, eq, of_bits}
use lib.Ieee.Bits.{is_true}
use lib.Ieee.Scale.{finite}
use Rattle.std.specs.Prelude.{Result, Ok, Err}
use Rattle.floats.specs.Words.{plus_zero, one}
use Rattle.floats.specs.Held.{held?}
use Rattle.floats.specs.Count.{no_work}
use Rattle.elementary.specs.Bounds.{Within}
use Rattle.elementary.specs.declared.NormalLaw.{NormalLaw}
use Rattle.autocorrelation.specs.Statistic.{durbin_watson, durbin_watson_answer}
use Rattle.autocorrelation.specs.Bound.{exact_squares, exact_differences, Accurate, numbers_sized?, differences_sized?, Sure}
use Rattle.autocorrelation.specs.declared.StatisticError.{StatisticError}
use Rattle.autocorrelation.proofs.Theorems.{sure, answer-accurate, answer-finite}
use Rattle.autocorrelation.proofs.Rules.{accepted}
use Rattle.columns.specs.Sheet.{columns_of}
use Rattle.design.specs.Matrix.{Matrix}
use Rattle.design.specs.Factor.{pivots_of}
use Rattle.design.specs.Inverse.{inverse_of}
use Rattle.design.specs.Law.{law_from, law_answer}
use Rattle.outcome.specs.P.{normal_p, exact_p}
use Rattle.outcome.specs.declared.Alternative.{Alternative}
use Rattle.design.specs.declared.LawError.{LawError}
use Rattle.design.specs.declared.FailedPivot.{FailedPivot}
use Rattle.outcome.proofs.Bounds.{columns-p-within-one}
use Rattle.projection.specs.Projection.{mam_of}
use Rattle.tridiagonal.specs.Reflection.{tridiagonal_of}
use Rattle.tridiagonal.specs.Bands.{diagonal_of, couplings_of}
use Rattle.ql.specs.Ql.{turn_sweeps}
use Rattle.ql.proofs.StuckLaws.{none_stuck}
use Rattle.eigen.specs.Spectrum.{bands_stuck, spectrum_of, kept_numbers}
use Rattle.eigen.specs.declared.Numbers.{Numbers}
use Rattle.eigen.specs.declared.SpectrumError.{SpectrumError}
use Rattle.eigen.proofs.SpectrumLaws.{kept-told}
use Rattle.weights.specs.Weights.{Signs, none, above, below, mixed, signs_of}
use Rattle.imhof.specs.Parts.{tolerance}
use Rattle.imhof.specs.Imhof.{imhof_of}
use Rattle.imhof.specs.declared.Estimate.{Estimate}
use Rattle.imhof.specs.declared.ExactError.{ExactError}
use Rattle.imhof.specs.declared.ExactError.TheVariants.{NoWeight, NotFinite}
use Rattle.imhof.proofs.Probability.{probability-within}
use Rattle.imhof.proofs.Ending.{small-of-integral, small-of-certain, few-small}
use Rattle.outcome.specs.Refusals.{refusal, passes, refusal_of, spectrum_error, law_error, columns_refusal, statistic_refusal, rows_refusal, pivots_refusal, inverse_refusal, room_refusal}
use Rattle.outcome.specs.declared.Path.TheVariants as path
use Rattle.outcome.specs.declared.refusals.TestError.{TestError}
use Rattle.outcome.specs.declared.refusals.TestError.TheVariants.{Statistic, Pivot}
use Rattle.outcome.specs.Result.{path_number, refused_of, accepted_of, wants_exact, no_law, direct, fallen_back, worked_out}
use Rattle.dwtest.specs.Layout.{layout_from}
use Rattle.dwtest.specs.Verdict.{normal_path, exact_path, by_spectrum, finish}
use Rattle.dwtest.specs.declared.verdict.Said.TheVariants.{Answered, LawDue}
use Rattle.outcome.specs.Rooms.{room_of}
use Rattle.dwtest.specs.Test.{asking, design_of, test_of}
use Rattle.dwtest.specs.Vouched.{SureIf, Vouched}
use Rattle.outcome.specs.declared.Asked.{Asked}
use Rattle.outcome.specs.declared.Refusal.{Refusal}
use Rattle.outcome.specs.declared.Outcome.{Outcome}
use Rattle.outcome.specs.declared.Choice.{Choice}
use Rattle.outcome.specs.declared.Leaving.{Leaving}
use Rattle.dwtest.proofs.TestLaws.{pivot-fails, inverse-refused, too_few, by-normal, no_room, by-exact, columns-refused, statistic-refused, rows-refused, runs-pass}
use Rattle.outcome.proofs.PassLaws.{reason-refuses, sized_of}
use Rattle.theorems.specs.Document.{empty, first_given, rows, both_signs, exact_due, fell_back, weights_left, coupling_was_left, error_sum, settled_due}
use Rattle.theorems.specs.Figures.{sweeps_in}
use Rattle.theorems.proofs.Swept.{kept-swept}
use Rattle.theorems.proofs.Order.{value-is, none_left, weight-left, valued, as-document}
use Rattle.theorems.proofs.Unit.{exact-p-within}
use Rattle.theorems.proofs.One.{Promised}

-- no weight is of both signs where none is left
pub none-of-both : (ws : List Float) → empty ws ≡ true → both_signs (signs_of ws) ≡ false
none-of-both [] h = refl
none-of-both (w ∷ ws) h = absurd (true≢false (sym h))

module _ (e x : List Float) (k : ℕ) (a : Alternative) (choice : Choice) (matrix_room part_room : ℕ) where
  abbrev n : ℕ
  n = length e

  abbrev d : Float
  d = durbin_watson e

  abbrev asked : Asked
  asked = asking d a n

  abbrev inverse : Matrix
  inverse = inverse_of x n k

  abbrev kept : List Float
  kept = kept_numbers x inverse n k

  abbrev outcome : Outcome
  outcome = test_of e x k a choice matrix_room part_room

  abbrev due : Bool
  due = exact_due e x k choice matrix_room part_room

  abbrev back : Bool
  back = fell_back e x k choice matrix_room part_room

  abbrev left? : Bool
  left? = coupling_was_left e x k choice matrix_room part_room

  -- what the exact path left to paths 3 and 4: they follow it only where it fell back, and then the sweeps alone decide the mark
  abbrev pub LeftBy : Leaving → Type 0
  LeftBy left = (left.fallback ≡ back) × (due ≡ back) × (left.settled ≡ (not due || not left?))

  -- what a property must be shown of
  pub record Shown (P : Outcome → Type 0) : Type 0 where
    -- a refusal
    pub refused : (r : Refusal) → passes r ≡ false → P (refused_of r)
    -- path 1
    pub short : ltb n 3 ≡ true → P (accepted_of asked one (path_number path.FewRows) direct no_law)
    -- paths 4 and 3, with what the exact path left
    pub early : (left : Leaving) → LeftBy left → P (accepted_of asked one (path_number path.FewForLaw) left no_law)
    pub normal : (left : Leaving) (law : NormalLaw) → LeftBy left → law_answer (law_from x n k inverse) ≡ Ok law
        → P (accepted_of asked (normal_p law d a) (path_number path.Law) left law)
    -- path 2
    pub exact : (s : Numbers) (q : Estimate) → due ≡ true → back ≡ false → s.stuck ≡ left? → (imhof_of kept d).answer ≡ Ok q
        → P (accepted_of asked (exact_p q.probability a) (path_number path.Imhof) (worked_out s q) no_law)

  -- the work that the exact path left to them: the sweeps alone
  abbrev pub WorkLeft : Leaving → Type 0
  WorkLeft left = (left.work.sweeps ≡ cond due (sweeps_in (spectrum_of x inverse n k)) 0) × (left.work.bisections ≡ 0) × (left.work.evaluations ≡ 0)

  -- the same, where a property may rest on the work too, and path 2 on the spectrum as it is
  pub record ShownWorked (P : Outcome → Type 0) : Type 0 where
    pub refused : (r : Refusal) → passes r ≡ false → P (refused_of r)
    pub short : ltb n 3 ≡ true → P (accepted_of asked one (path_number path.FewRows) direct no_law)
    pub early : (left : Leaving) → LeftBy left → WorkLeft left → P (accepted_of asked one (path_number path.FewForLaw) left no_law)
    pub normal : (left : Leaving) (law : NormalLaw) → LeftBy left → WorkLeft left → law_answer (law_from x n k inverse) ≡ Ok law
        → P (accepted_of asked (normal_p law d a) (path_number path.Law) left law)
    pub exact : (s : Numbers) (q : Estimate) → due ≡ true → back ≡ false → spectrum_of x inverse n k ≡ Ok s → (imhof_of kept d).answer ≡ Ok q
        → P (accepted_of asked (exact_p q.probability a) (path_number path.Imhof) (worked_out s q) no_law)

  -- the eigenvalues' mark is whether a coupling was left
  stuck-is : (s : Numbers) → spectrum_of x inverse n k ≡ Ok s → s.stuck ≡ left?
  unfolding bands_stuck
  stuck-is s g = (kept-told x inverse n k s g).1

  module _ (P : Outcome → Type 0) (shown : ShownWorked P) where
    refused : (why : TestError) → P (refused_of (refusal_of why))
    refused why = shown.refused (refusal_of why) (reason-refuses why)

    normal-shown : (left : Leaving) → LeftBy left → WorkLeft left → P (normal_path (layout_from x n k inverse) asked left)
    unfolding normal_path
    normal-shown left f w = go (ltb n 5) (law_answer (law_from x n k inverse)) refl
      where
        go : (b : Bool) (l : Result NormalLaw LawError) → law_answer (law_from x n k inverse) ≡ l
            → P (finish l asked (cond b (Answered (accepted_of asked one (path_number path.FewForLaw) left no_law)) (LawDue left)))
        go true l h = shown.early left f w
        go false (Ok law) h = shown.normal left law f w h
        go false (Err why) h = refused (law_error why)

    exact-shown : due ≡ true → P (exact_path (layout_from x n k inverse) asked)
    unfolding exact_path
    exact-shown is-due = go (spectrum_of x inverse n k) refl (imhof_of kept d).answer refl
      where
        go : (s : Result Numbers SpectrumError) → spectrum_of x inverse n k ≡ s → (q : Result Estimate ExactError) → (imhof_of kept d).answer ≡ q → P (finish (layout_from x n k inverse).law asked (by_spectrum s kept asked))
        go (Err why) g q h = refused (spectrum_error why)
        go (Ok s) g (Err NoWeight) h =
            rw h (unfold normal_path in normal-shown (fallen_back s)
            (rw (is-due, none_left kept d h, stuck-is s g) (refl, refl, refl)) (rw (is-due, g) (refl, (kept-swept x inverse n k s g).0, (kept-swept x inverse n k s g).1)))
        go (Ok s) g (Err NotFinite) h = rw h (shown.refused (refusal 13 4) refl)
        go (Ok s) g (Ok q) h = rw h (shown.exact s q is-due (rw (is-due, weight-left kept d (Ok q) h valued) refl) g h)

    decided-shown : P (design_of room_of x n k asked choice matrix_room part_room)
    decided-shown =
        go (pivots_of x n k) refl (passes (inverse_refusal k inverse)) refl (ltb n 3) refl (wants_exact choice n) refl (passes (room_refusal (room_of n) matrix_room part_room)) refl
      where
        go : (p : Result (Unit {0}) FailedPivot) → pivots_of x n k ≡ p → (i : Bool) → passes (inverse_refusal k inverse) ≡ i → (f : Bool) → ltb n 3 ≡ f → (w : Bool) → wants_exact choice n ≡ w
            → (r : Bool) → passes (room_refusal (room_of n) matrix_room part_room) ≡ r → P (design_of room_of x n k asked choice matrix_room part_room)
        go (Err failed) h i g f j w l r m =
            subst P (sym (pivot-fails room_of x n k asked choice matrix_room part_room (Err failed) h refl).0) (refused (Pivot failed))
        go (Ok hold) h false g f j w l r m =
            subst P (sym (inverse-refused room_of x n k asked choice matrix_room part_room inverse h refl g).0) (shown.refused (inverse_refusal k inverse) g)
        go (Ok hold) h true g true j w l r m = subst P (sym (too_few room_of x n k asked choice matrix_room part_room inverse h refl g j).0) (shown.short j)
        go (Ok hold) h true g false j false l r m =
            subst P (sym (by-normal room_of x n k asked choice matrix_room part_room inverse h refl g j l).0) (normal-shown direct (rw (j, l) (refl, refl, refl)) (rw (j, l) (refl, refl, refl)))
        go (Ok hold) h true g false j true l false m =
            subst P (sym (no_room room_of x n k asked choice matrix_room part_room inverse h refl g j l m).0) (shown.refused (room_refusal (room_of n) matrix_room part_room) m)
        go (Ok hold) h true g false j true l true m =
            subst P (sym (by-exact room_of x n k asked choice matrix_room part_room inverse h refl g j l m).0) (exact-shown (rw (j, l) refl))

    -- every outcome, with its work
    pub every-worked : P outcome
    every-worked = go (passes (columns_refusal (columns_of x n k))) refl (passes (statistic_refusal (durbin_watson_answer e))) refl (passes (rows_refusal n k)) refl
      where
        go : (c : Bool) → passes (columns_refusal (columns_of x n k)) ≡ c → (s : Bool) → passes (statistic_refusal (durbin_watson_answer e)) ≡ s → (t : Bool) → passes (rows_refusal n k) ≡ t → P outcome
        go false c s f t g = subst P (sym (columns-refused room_of e x k a choice matrix_room part_room (columns_of x n k) refl c).0) (shown.refused (columns_refusal (columns_of x n k)) c)
        go true c false f t g =
            subst P (sym (statistic-refused room_of e x k a choice matrix_room part_room (columns_of x n k) refl c (durbin_watson_answer e) refl f).0) (shown.refused (statistic_refusal (durbin_watson_answer e)) f)
        go true c true f false g =
            subst P (sym (rows-refused room_of e x k a choice matrix_room part_room (columns_of x n k) refl c (durbin_watson_answer e) refl f g).0) (shown.refused (rows_refusal n k) g)
        go true c true f true g =
            subst P (sym (runs-pass room_of e x k a choice matrix_room part_room (columns_of x n k) refl c (durbin_watson_answer e) refl f g).0)
            (subst (λ v. P (design_of room_of x n k (asking v a n) choice matrix_room part_room)) (sym (value-is e x k a choice matrix_room part_room f)) decided-shown)

  -- EVERY OUTCOME
  module _ (P : Outcome → Type 0) (shown : Shown P) where
    pub every : P outcome
    every = every-worked P (record {
      refused = shown.refused;
      short = shown.short;
      early = λ left f w. shown.early left f;
      normal = λ left law f w l. shown.normal left law f l;
      exact = λ s q u b g v. shown.exact s q u b (stuck-is s g) v;
    })

  -- ---- the statistic

  -- what an accepted call tells of its runs
  checked : passes outcome.refusal ≡ true → (n ≤ 256) × (durbin_watson_answer e ≡ Ok d)
  checked q = go (passes (columns_refusal (columns_of x n k))) refl (durbin_watson_answer e) refl
    where
      never : {r : Refusal} → passes r ≡ false → outcome ≡ refused_of r → ⊥
      never h o = true≢false (sym q ∙ ap (λ o. passes o.refusal) o ∙ h)

      go : (c : Bool) → passes (columns_refusal (columns_of x n k)) ≡ c → (s : Result Float StatisticError) → durbin_watson_answer e ≡ s → (n ≤ 256) × (durbin_watson_answer e ≡ Ok d)
      go false c s h = absurd (never c (columns-refused room_of e x k a choice matrix_room part_room (columns_of x n k) refl c).0)
      go true c (Ok v) h = ((sized_of x n k c).fits.0, h ∙ ap (λ (v : Float). Ok v) (sym (accepted e v h).is))
      go true c (Err why) h = absurd (never (reason-refuses (Statistic why)) (statistic-refused room_of e x k a choice matrix_room part_room (columns_of x n k) refl c (Err why) h (reason-refuses (Statistic why))).0)

  -- an accepted call reports Durbin and Watson's d
  pub statistic-is : passes outcome.refusal ≡ true → outcome.statistic ≡ durbin_watson e
  statistic-is = every (λ o. passes o.refusal ≡ true → o.statistic ≡ d) (record {
    refused = λ r h q. absurd (true≢false (sym q ∙ h));
    short = λ h q. refl;
    early = λ left h q. refl;
    normal = λ left law h l q. refl;
    exact = λ s v u h t w q. refl;
  })

  -- DEMAND 3: where the residuals and their exact neighbour differences are each 0 or from 2^-250 to 2^250 in size, the reported statistic is off the exact quotient by
  -- at most (n + 2) / 2^52 of it
  pub statistic-accurate : passes outcome.refusal ≡ true → T (held? e) → T (numbers_sized? 250 e) → T (differences_sized? 250 e)
      → Accurate n outcome.statistic (exact_differences e) (exact_squares e)
  statistic-accurate q h s t =
      let c = checked q in
      subst (λ v. Accurate n v (exact_differences e) (exact_squares e)) (sym (statistic-is q)) (answer-accurate e d c.1 c.0 h s t)

  -- where binary64 holds the run, the result is vouched for
  pub vouched : T (held? e) → Vouched outcome e
  vouched held = go (passes outcome.refusal) refl
    where
      go : (b : Bool) → passes outcome.refusal ≡ b → SureIf b outcome.statistic e
      go true q = subst (λ v. Sure v e) (sym (statistic-is q)) (sure e d (checked q).1 held)
      go false q = tt

  -- ---- p

  -- of a finite statistic
  finite-p-within : T (finite d) → passes outcome.refusal ≡ true → Within plus_zero one outcome.p
  finite-p-within fine = every (λ o. passes o.refusal ≡ true → Within plus_zero one o.p) (record {
    refused = λ r h q. absurd (true≢false (sym q ∙ h));
    short = λ h q. whole;
    early = λ left h q. whole;
    normal = λ left law h l q. columns-p-within-one x n k inverse law d a l (is_true (finite d) fine);
    exact = λ s v u h t w q. let r = probability-within kept d v w in exact-p-within v.probability a (number v.probability r.0) r.0 r.1;
  })
    where
      whole : Within plus_zero one one
      whole = unfold is_nan le lt eq of_bits in record { number = refl; from = refl; to = refl }

      number : (v : Float) → le plus_zero v ≡ true → is_nan v ≡ false
      number nan h = absurd (true≢false (sym (unfold le lt eq of_bits in h)))
      number (inf b) h = unfold is_nan in refl
      number (fin b m i) h = unfold is_nan in refl

  -- EVERY ACCEPTED P is a number from 0 to 1
  pub p-within : passes outcome.refusal ≡ true → T (held? e) → Within plus_zero one outcome.p
  p-within q held = finite-p-within (answer-finite e d (checked q).1 held).0 q

  -- ---- settled, and the fallback

  abbrev weights : List Float
  weights = weights_left e x k choice matrix_room part_room

  abbrev sum : Float
  sum = error_sum e x k choice matrix_room part_room

  abbrev matrix : List Float
  matrix = tridiagonal_of n (mam_of x inverse n k)

  abbrev mark : Bool
  mark = settled_due e x k choice matrix_room part_room

  -- paths 3 and 4
  left-mark : (left : Leaving) → LeftBy left → left.settled ≡ mark
  left-mark left h = go due refl
    where
      and-true : (b : Bool) → b ≡ (b && true)
      and-true true = refl
      and-true false = refl

      go : (b : Bool) → due ≡ b → left.settled ≡ mark
      go false u = h.2 ∙ rw u refl
      go true u = h.2 ∙ rw (u, none-of-both weights (rw u at (sym h.1 ∙ u))) (and-true (not left?))

  -- path 2
  exact_mark : (s : Numbers) (q : Estimate) → due ≡ true → s.stuck ≡ left? → (imhof_of kept d).answer ≡ Ok q → (not s.stuck && q.small) ≡ mark
  exact_mark s q u t w = rw (u, t) (ap (λ b. not left? && b) (go (signs_of weights) refl))
    where
      go : (g : Signs) → signs_of weights ≡ g → q.small ≡ (not (both_signs (signs_of weights)) || le sum tolerance)
      go none p = small-of-certain kept d q (λ m. true≢false (sym (ap both_signs (sym p ∙ m)))) w ∙ rw p refl
      go above p = small-of-certain kept d q (λ m. true≢false (sym (ap both_signs (sym p ∙ m)))) w ∙ rw p refl
      go below p = small-of-certain kept d q (λ m. true≢false (sym (ap both_signs (sym p ∙ m)))) w ∙ rw p refl
      go mixed p = small-of-integral kept d q p w ∙ rw p refl

  settled-by : outcome.settled ≡ (passes outcome.refusal && mark)
  settled-by = every (λ o. o.settled ≡ (passes o.refusal && mark)) (record {
    refused = λ r h. rw h refl;
    short = λ h. rw h refl;
    early = λ left h. left-mark left h;
    normal = λ left law h l. left-mark left h;
    exact = λ s v u h t w. exact_mark s v u t w;
  })

  -- SETTLED exactly when nothing is refused and, where the exact path was due, no index had a coupling left after its turn and the weights are not of both signs or the
  -- final error sum is at most 5e-12
  pub settled-when : outcome.settled ≡ (passes (first_given (rows e x k choice matrix_room part_room)) && mark)
  settled-when = settled-by ∙ ap (λ r. passes r && mark) (as-document e x k a choice matrix_room part_room)

  -- AS BEFORE W-201 where no index made 60 sweeps: with fewer than 2,000 bisections every accepted call is settled
  pub settled-as-before : ((l : ℕ) → l < n → turn_sweeps n l (diagonal_of n matrix) (couplings_of n matrix) no_work < 60) → outcome.work.bisections < 2000 → outcome.settled ≡ passes outcome.refusal
  settled-as-before few = every (λ o. o.work.bisections < 2000 → o.settled ≡ passes o.refusal) (record {
    refused = λ r h b. sym h;
    short = λ h b. refl;
    early = λ left h b. h.2 ∙ ended due;
    normal = λ left law h l b. h.2 ∙ ended due;
    exact = λ s v u h t w b. rw (t, none, few-small kept d v w b) refl;
  })
    where
      none : left? ≡ false
      none = none_stuck n n (diagonal_of n matrix) (couplings_of n matrix) no_work few

      ended : (b : Bool) → (not b || not left?) ≡ true
      ended false = refl
      ended true = rw none refl

  -- THE FALLBACK exactly when the exact path was due and left no weight, and nothing is refused
  pub fallback-when : outcome.fallback ≡ (passes outcome.refusal && back)
  fallback-when = every (λ o. o.fallback ≡ (passes o.refusal && back)) (record {
    refused = λ r h. rw h refl;
    short = λ h. rw h refl;
    early = λ left h. h.0;
    normal = λ left law h l. h.0;
    exact = λ s v u h t w. sym h;
  })

-- ---- of every accepted result that the promise of `durbin_watson_test` allows
module _ (e x : List Float) (k : ℕ) (a : Alternative) (choice : Choice) (matrix parts : List Float) (r : Outcome) (matrix_after parts_after : List Float) (promised : Promised e x k a choice matrix parts r matrix_after parts_after)
    (vouches : Vouched r e) (accepts : passes r.refusal ≡ true) where
  known : Sure r.statistic e
  known = subst (λ (b : Bool). SureIf b r.statistic e) accepts vouches

  passed : passes (test_of e x k a choice (length matrix) (length parts)).refusal ≡ true
  passed = subst (λ (o : Outcome). passes o.refusal ≡ true) promised.0 accepts

  -- DEMAND 3: where the residuals and their exact neighbour differences are each 0 or from 2^-250 to 2^250 in size, the reported statistic is off the exact quotient by
  -- at most (n + 2) / 2^52 of it
  pub promised-accurate : T (numbers_sized? 250 e) → T (differences_sized? 250 e) → Accurate (length e) r.statistic (exact_differences e) (exact_squares e)
  promised-accurate = known.accurate (checked e x k a choice (length matrix) (length parts) passed).0

  -- EVERY ACCEPTED P is a number from 0 to 1
  pub promised-p-within : Within plus_zero one r.p
  promised-p-within =
      subst (λ (o : Outcome). Within plus_zero one o.p) (sym promised.0)
      (finite-p-within e x k a choice (length matrix) (length parts)
      (subst (λ (v : Float). T (finite v)) (ap (λ (o : Outcome). o.statistic) promised.0 ∙ statistic-is e x k a choice (length matrix) (length parts) passed) known.is_finite) passed)
