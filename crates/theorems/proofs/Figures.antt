-- What a layout's figures may show: specs/Figures.antt's laws. One idea: an accepted exact call is past every check, so its result is `exact_path` of the columns, how many
-- rows they have, and the statistic (`exact-is`); and that path takes kept count and sweeps from the spectrum, into which no statistic comes. Assumes nothing.
use mathlib.Core.Path.{◌≡◌, refl, sym, ap, ◌∙◌, subst}
use mathlib.Core.Logic.{◌⊎◌, inl, inr}
use mathlib.Core.Bool.{Bool, true, false, not, ◌&&◌, cond, true≢false, and-true}
use Prim.Native.Nat.{ℕ, ◌*◌, ◌<◌}
use native.Mathlib.Nat.{eq_of_mul-eq-mul_right, mul_comm}
use mathlib.Core.List.{List, ◌∷◌}
use borrow.Author.Tests.{eqb-false}
use lib.Dec.{ltb, eqb}
use lib.ListN.{length, take, drop}
use lib.Seq.{take_at}
use lib.Ieee.{Float, binary64, to_bits, of_bits}
use lib.Ieee.Bits.{of_bits-to_bits}
use lib.Ieee.Fits.{div-fits}
use Rattle.std.specs.Prelude.{Option, Some, None, Result, Ok, Err}
use Rattle.floats.specs.Words.{one}
use Rattle.floats.specs.Search.{first_bad}
use Rattle.autocorrelation.specs.Statistic.{differences, squares, durbin_watson, durbin_watson_answer, value}
use Rattle.columns.specs.Sheet.{columns_of}
use Rattle.design.specs.Matrix.{Matrix}
use Rattle.design.specs.Inverse.{inverse_of}
use Rattle.design.specs.Law.{law_from, law_answer}
use Rattle.outcome.specs.declared.Alternative.{Alternative}
use Rattle.design.specs.declared.LawError.{LawError}
use Rattle.elementary.specs.declared.NormalLaw.{NormalLaw}
use Rattle.dwtest.proofs.TestLaws.{rooms-lack, rooms-suffice}
use Rattle.projection.specs.Projection.{mam_of}
use Rattle.tridiagonal.specs.Reflection.{tridiagonal_of}
use Rattle.eigen.specs.Spectrum.{bands_stuck, worked_of, numbers_of, kept_by, kept_from, delivered_of, delivered_numbers, spectrum_by, numbers_by, spectrum_of, kept_numbers}
use Rattle.eigen.specs.declared.Numbers.{Numbers}
use Rattle.eigen.specs.declared.SpectrumError.{SpectrumError}
use Rattle.eigen.proofs.SpectrumLaws.{kept-told}
use Rattle.imhof.specs.Imhof.{imhof_of}
use Rattle.imhof.specs.declared.Estimate.{Estimate}
use Rattle.imhof.specs.declared.ExactError.{ExactError}
use Rattle.imhof.specs.declared.ExactError.TheVariants.{NoWeight, NotFinite}
use Rattle.imhof.proofs.Ending.{few-small}
use Rattle.outcome.specs.Refusals.{passes, first_of, columns_refusal, statistic_refusal, rooms_of, room_refusal}
use Rattle.dwtest.specs.Layout.{design_checks, Layout, layout_from, layout_of}
use Rattle.dwtest.specs.Test.{asking, run_checks, unless_refused, answer_of, design_of, test_with, test_of}
use Rattle.outcome.specs.Refusals.{spectrum_error, law_error}
use Rattle.outcome.specs.declared.Path.TheVariants as path
use Rattle.outcome.proofs.PassLaws.{reason-refuses}
use Rattle.outcome.specs.Result.{path_number, refused_of, accepted_of, wants_exact, no_law, fallen_back}
use Rattle.dwtest.specs.Verdict.{to_law, normal_path, by_imhof, by_spectrum, finish, exact_path}
use Rattle.dwtest.specs.declared.verdict.Said.TheVariants.{Answered, LawDue}
use Rattle.outcome.specs.Rooms.{room_of}
use Rattle.outcome.specs.declared.Refusal.{Refusal}
use Rattle.outcome.specs.declared.Outcome.{Outcome}
use Rattle.outcome.specs.declared.Choice.{Choice}
use Rattle.outcome.specs.declared.Leaving.{Leaving}
use Rattle.outcome.proofs.PassLaws.{Sized, sized_of}
use Rattle.theorems.specs.Document.{exact_due, integral_ended}
use Rattle.theorems.specs.Sheets.{Sheet, outcome_of}
use Rattle.theorems.specs.Figures.{Figures, count_in, sweeps_in, figures_of, figures_in, passed_on, AcceptedExact, OneLayout, ExactTold, FiguresShown, SweepHalfTold, FiguresCounted, SameRows, SameFigures, SameMark, SameResult, SameOnPathTwo}
use Rattle.theorems.proofs.Order.{value-is, as-document}
use Rattle.theorems.proofs.Accepted.{Shown, every, statistic-is, settled-when}
use Rattle.theorems.proofs.One.{Promised}
use Rattle.theorems.proofs.One as outcomes

-- ---- the checks: what is accepted has passed each, and is what comes after them
past : (checks : List Refusal) (after : Outcome) → passes (unless_refused checks after).refusal ≡ true → (passes (first_of checks) ≡ true) × (unless_refused checks after ≡ after)
past checks after accepted = go (passes (first_of checks)) refl accepted
  where
    go : (b : Bool) → passes (first_of checks) ≡ b → passes (cond b after (refused_of (first_of checks))).refusal ≡ true
        → (passes (first_of checks) ≡ true) × (cond b after (refused_of (first_of checks)) ≡ after)
    go true h q = (h, refl)
    go false h q = absurd (true≢false (sym q ∙ h))

first_passes : (r : Refusal) (rest : List Refusal) → passes (first_of (r ∷ rest)) ≡ true → (passes r ≡ true) × (passes (first_of rest) ≡ true)
unfolding first_of
first_passes r rest passed = go (passes r) refl passed
  where
    go : (b : Bool) → passes r ≡ b → passes (cond b (first_of rest) r) ≡ true → (passes r ≡ true) × (passes (first_of rest) ≡ true)
    go true h q = (h, q)
    go false h q = absurd (true≢false (sym q ∙ h))

-- what the exact path asks: not too few rows, and that it is wanted
enough : (few wanted : Bool) → (not few && wanted) ≡ true → (few ≡ false) × (wanted ≡ true)
enough true wanted h = absurd (true≢false (sym h))
enough false wanted h = (refl, h)

module _ (e x : List Float) (k : ℕ) (a : Alternative) (c : Choice) (m p : ℕ) (accepted : passes (test_of e x k a c m p).refusal ≡ true) (due : exact_due e x k c m p ≡ true) where
  abbrev n : ℕ
  n = length e

  abbrev d : Float
  d = value (durbin_watson_answer e)

  -- past refusals 1 to 10
  runs : (passes (first_of (run_checks e x k)) ≡ true) × (test_of e x k a c m p ≡ design_of room_of x n k (asking d a n) c m p)
  unfolding test_with
  runs = past (run_checks e x k) (design_of room_of x n k (asking d a n) c m p) accepted

  sized : Sized x n k
  sized = sized_of x n k (first_passes (columns_refusal (columns_of x n k)) _ runs.0).0

  value-told : d ≡ durbin_watson e
  value-told = value-is e x k a c m p (first_passes (statistic_refusal (durbin_watson_answer e)) _ (first_passes (columns_refusal (columns_of x n k)) _ runs.0).1).0

  -- past 11 and stage 1 of 13
  design : test_of e x k a c m p ≡ answer_of room_of n (layout_of x n k) (asking d a n) c m p
  unfolding design_of
  design = runs.1 ∙ (past (design_checks x n k) (answer_of room_of n (layout_of x n k) (asking d a n) c m p) (subst (λ o. passes o.refusal ≡ true) runs.1 accepted)).1

  -- three rows or more, exact, and past 12
  room : test_of e x k a c m p ≡ exact_path (layout_of x n k) (asking d a n)
  unfolding exact_path
  room = let rows = enough (ltb n 3) (wants_exact c n) due in go (passes (room_refusal (room_of n) m p)) refl rows
    where
      go : (b : Bool) → passes (room_refusal (room_of n) m p) ≡ b → (ltb n 3 ≡ false) × (wants_exact c n ≡ true) → test_of e x k a c m p ≡ exact_path (layout_of x n k) (asking d a n)
      go true h rows = design ∙ rw (rows.0, rows.1) (rooms-suffice (layout_of x n k).law (layout_of x n k) (asking d a n) (rooms_of (room_of n) m p) h).0
      go false h rows =
          let refused : test_of e x k a c m p ≡ refused_of (room_refusal (room_of n) m p) = design ∙ rw (rows.0, rows.1) (rooms-lack (layout_of x n k).law (layout_of x n k) (asking d a n) (rooms_of (room_of n) m p) h).0 in
          absurd (true≢false (sym accepted ∙ ap (λ o. passes o.refusal) refused ∙ h))

  -- THE EXACT PATH: of the residuals, how many there are and their statistic come in, and nothing else
  pub exact-is : test_of e x k a c m p ≡ exact_path (layout_of x n k) (asking (durbin_watson e) a n)
  exact-is = room ∙ ap (λ v. exact_path (layout_of x n k) (asking v a n)) value-told

-- ---- kept count and sweeps
module _ (x : List Float) (n k : ℕ) (inverse : Matrix) (d : Float) (a : Alternative) where
  abbrev layout : Layout
  layout = layout_from x n k inverse

  -- paths 3 and 4 hand on what the exact path left
  abbrev Hands : Leaving → Outcome → Type 0
  Hands left o = passes o.refusal ≡ true → (o.kept ≡ left.kept) × (o.work ≡ left.work)

  normal-hands : (left : Leaving) → Hands left (normal_path layout (asking d a n) left)
  unfolding normal_path
  normal-hands left = go (ltb n 5) (law_answer (law_from x n k inverse))
    where
      go : (b : Bool) (l : Result NormalLaw LawError) → Hands left (finish l (asking d a n) (cond b (Answered (accepted_of (asking d a n) one (path_number path.FewForLaw) left no_law)) (LawDue left)))
      go true l q = (refl, refl)
      go false (Ok law) q = (refl, refl)
      go false (Err why) q = absurd (true≢false (sym q ∙ reason-refuses (law_error why)))

  handed : (s : Numbers) → Hands (fallen_back s) (finish layout.law (asking d a n) (to_law (asking d a n) (fallen_back s)))
  unfolding normal_path
  handed s = normal-hands (fallen_back s)

  -- of the exact path they are the spectrum's, whatever the eigenvalues and the sweep half are
  module _ (numbers : List Float) (ended : Bool) where
    abbrev figures : ℕ → ℕ → Figures
    figures kept sweeps = record { eigenvalues = numbers; kept = kept; sweeps = sweeps; settled_sweeps = ended }

    -- by path 2
    value-shows : (s : Numbers) (v : Estimate) → figures_in numbers ended (finish layout.law (asking d a n) (by_imhof (Ok v) s (asking d a n))) ≡ figures s.count s.work.sweeps
    value-shows s v = refl

    exact-shows : passes (exact_path layout (asking d a n)).refusal ≡ true → figures_in numbers ended (exact_path layout (asking d a n)) ≡ figures (count_in (spectrum_of x inverse n k)) (sweeps_in (spectrum_of x inverse n k))
    unfolding exact_path
    exact-shows = go (spectrum_of x inverse n k) (imhof_of (kept_numbers x inverse n k) d).answer refl
      where
        go : (s : Result Numbers SpectrumError) (q : Result Estimate ExactError) → (imhof_of (kept_numbers x inverse n k) d).answer ≡ q → passes (finish layout.law (asking d a n) (by_spectrum s (kept_numbers x inverse n k) (asking d a n))).refusal ≡ true
            → figures_in numbers ended (finish layout.law (asking d a n) (by_spectrum s (kept_numbers x inverse n k) (asking d a n))) ≡ figures (count_in s) (sweeps_in s)
        go (Err why) q h = λ r. absurd (true≢false (sym r ∙ reason-refuses (spectrum_error why)))
        go (Ok s) (Err NoWeight) h = rw h (λ r. let same = handed s r in rw (same.0, same.1) refl)
        go (Ok s) (Err NotFinite) h = rw h (λ r. absurd (true≢false (sym r)))
        go (Ok s) (Ok v) h = rw h (λ r. value-shows s v)

-- the eigenvalues that are passed on are counted
delivered-counted : (n k : ℕ) (b : List Float) → count_in (delivered_of n k b) ≡ length (delivered_numbers n k b)
unfolding delivered_of delivered_numbers
delivered-counted n k b = go (first_bad (numbers_of n b))
  where
    go : (bad : Option ℕ) → count_in (kept_by bad n k (numbers_of n b) (worked_of n b).work (bands_stuck n (tridiagonal_of n b))) ≡ length (kept_from bad n k (numbers_of n b))
    go (Some t) = refl
    go None = refl

pub figures-counted : FiguresCounted
unfolding spectrum_of kept_numbers
figures-counted x n k = go (first_bad (mam_of x (inverse_of x n k) n k))
  where
    go : (bad : Option ℕ) → count_in (spectrum_by bad n k (mam_of x (inverse_of x n k) n k)) ≡ length (numbers_by bad n k (mam_of x (inverse_of x n k) n k))
    go (Some t) = refl
    go None = delivered-counted n k (mam_of x (inverse_of x n k) n k)

-- all four are what any answer and run have that the promise of `ma_eigenvalues`, which takes no residual, allows for the columns and their inverse
pub figures-made : (x : List Float) (n k : ℕ) (run room : List Float) (s : Numbers) (after held : List Float) → outcomes.Kept x (inverse_of x n k) n k run room (Ok s) after held
    → record { eigenvalues = take s.count after; kept = s.count; sweeps = s.work.sweeps; settled_sweeps = not s.stuck } ≡ figures_of x n k
unfolding bands_stuck
figures-made x n k run room s after held f =
    let is : spectrum_of x (inverse_of x n k) n k ≡ Ok s = sym f.0 in
    let known = kept-told x (inverse_of x n k) n k s is in
    let numbers = kept_numbers x (inverse_of x n k) n k in
    let front : take s.count after ≡ numbers = ap (take s.count) f.1 ∙ take_at numbers (drop (length numbers) run) s.count (sym known.0) in
    rw (front, known.1, is) refl

-- ---- one call
module _ (s : Sheet) where
  abbrev e : List Float
  e = s.residuals

  abbrev x : List Float
  x = s.columns

  abbrev rows : ℕ
  rows = length s.residuals

  abbrev k : ℕ
  k = s.count

  -- whatever is shown of each kind of outcome holds of this one
  holds : (P : Outcome → Type 0) → Shown e x k s.alternative s.choice s.matrix_room s.part_room P → P (outcome_of s)
  holds = every e x k s.alternative s.choice s.matrix_room s.part_room

  module _ (h : AcceptedExact s) where
    layout-sized : Sized x rows k
    layout-sized = sized e x k s.alternative s.choice s.matrix_room s.part_room h.accepted h.due

    by-exact-path : outcome_of s ≡ exact_path (layout_of x rows k) (asking (durbin_watson e) s.alternative rows)
    by-exact-path = exact-is e x k s.alternative s.choice s.matrix_room s.part_room h.accepted h.due

    figures-are : passed_on s ≡ figures_of x rows k
    figures-are =
        let f = figures_of x rows k in
        ap (figures_in f.eigenvalues f.settled_sweeps) by-exact-path
        ∙ exact-shows x rows k (inverse_of x rows k) (durbin_watson e) s.alternative f.eigenvalues f.settled_sweeps (subst (λ (o : Outcome). passes o.refusal ≡ true) by-exact-path h.accepted)

    -- nothing is refused, and the exact path is due: settled is both halves
    both_halves : (outcome_of s).settled ≡ ((figures_of x rows k).settled_sweeps && integral_ended e x k s.choice s.matrix_room s.part_room)
    both_halves =
        settled-when e x k s.alternative s.choice s.matrix_room s.part_room
        ∙ rw (← as-document e x k s.alternative s.choice s.matrix_room s.part_room, h.accepted, h.due) refl

    -- no integral of fewer than 2,000 bisections runs out
    half-alone : (outcome_of s).work.bisections < 2000 → (outcome_of s).settled ≡ (figures_of x rows k).settled_sweeps
    half-alone few = holds
        (λ o. passes o.refusal ≡ true → o.work.bisections < 2000 → o.settled ≡ (figures_of x rows k).settled_sweeps) (record {
          refused = λ r u q b. absurd (true≢false (sym q ∙ u));
          short = λ u q b. absurd (true≢false (sym u ∙ (enough (ltb rows 3) (wants_exact s.choice rows) h.due).0));
          early = λ left u q b. u.2 ∙ rw h.due refl;
          normal = λ left law u l q b. u.2 ∙ rw h.due refl;
          exact = λ n v u t g w q b. rw (g, few-small (figures_of x rows k).eigenvalues (durbin_watson e) v w b) (and-true (figures_of x rows k).settled_sweeps);
        }) h.accepted few

    -- the statistic is a quotient, and a quotient is the value of its bits
    by_bits : durbin_watson e ≡ of_bits binary64 (to_bits binary64 (outcome_of s).statistic)
    by_bits =
        sym (of_bits-to_bits binary64 (durbin_watson e) (div-fits binary64 (differences e) (squares e)))
        ∙ ap (λ (d : Float). of_bits binary64 (to_bits binary64 d)) (sym (statistic-is e x k s.alternative s.choice s.matrix_room s.part_room h.accepted))

  -- which calls these are
  abbrev Told : Outcome → Type 0
  Told o = (o.path ≡ 2) ⊎ (o.fallback ≡ true)

  told_of : AcceptedExact s → Told (outcome_of s)
  told_of h = holds (λ o. passes o.refusal ≡ true → Told o) (record {
    refused = λ r u q. absurd (true≢false (sym q ∙ u));
    short = λ u q. absurd (true≢false (sym u ∙ (enough (ltb rows 3) (wants_exact s.choice rows) h.due).0));
    early = λ left u q. inr (u.0 ∙ sym u.1 ∙ h.due);
    normal = λ left law u l q. inr (u.0 ∙ sym u.1 ∙ h.due);
    exact = λ n v u t g w q. inl refl;
  }) h.accepted

  of-told : Told (outcome_of s) → AcceptedExact s
  of-told t = let g = holds (λ o. Told o → (passes o.refusal ≡ true) × (exact_due e x k s.choice s.matrix_room s.part_room ≡ true)) cases t in record { accepted = g.0; due = g.1 }
    where
      back : (path : ℕ) (fallback : Bool) → eqb path 2 ≡ false → (path ≡ 2) ⊎ (fallback ≡ true) → fallback ≡ true
      back path fallback other (inl q) = absurd (eqb-false path 2 other q)
      back path fallback other (inr q) = q

      cases : Shown e x k s.alternative s.choice s.matrix_room s.part_room
          (λ o. Told o → (passes o.refusal ≡ true) × (exact_due e x k s.choice s.matrix_room s.part_room ≡ true))
      cases = record {
        refused = λ r u q. absurd (true≢false (sym (back 0 false refl q)));
        short = λ u q. absurd (true≢false (sym (back 1 false refl q)));
        early = λ left u q. (refl, u.1 ∙ sym u.0 ∙ back 4 left.fallback refl q);
        normal = λ left law u l q. (refl, u.1 ∙ sym u.0 ∙ back 3 left.fallback refl q);
        exact = λ n v u t g w q. (refl, u);
      }

pub exact-told : ExactTold
exact-told s = (told_of s, of-told s)

pub figures-shown : FiguresShown
figures-shown s h = (figures-are s h, both_halves s h)

pub sweep-half-told : SweepHalfTold
sweep-half-told = half-alone

-- ---- two calls
-- both have as many columns, in one run
pub same_rows : SameRows
same_rows s s' layout h h' =
    let n = length s.residuals in
    let n' = length s'.residuals in
    let run : length s.columns ≡ length s'.columns = ap length layout.columns in
    eq_of_mul-eq-mul_right s.count (layout-sized s h).some n n'
    (mul_comm n s.count ∙ (layout-sized s h).fits.2 ∙ run ∙ sym (layout-sized s' h').fits.2 ∙ ap (λ (k : ℕ). k * n') (sym layout.count) ∙ mul_comm s.count n')

pub same-figures : SameFigures
same-figures s s' layout h h' =
    figures-are s h
    ∙ ap (λ (x : List Float). figures_of x (length s.residuals) s.count) layout.columns
    ∙ ap (λ (n : ℕ). figures_of s'.columns n s.count) (same_rows s s' layout h h')
    ∙ ap (λ (k : ℕ). figures_of s'.columns (length s'.residuals) k) layout.count
    ∙ sym (figures-are s' h')

pub same-result : SameResult
same-result s s' layout h h' bits =
    let d : durbin_watson s.residuals ≡ durbin_watson s'.residuals = by_bits s h ∙ ap (of_bits binary64) bits ∙ sym (by_bits s' h') in
    by-exact-path s h ∙ rw (d, layout.columns, same_rows s s' layout h h', layout.count, layout.alternative) refl ∙ sym (by-exact-path s' h')

pub same-mark : SameMark
same-mark s s' layout h h' few few' =
    half-alone s h few ∙ sym (ap (λ (f : Figures). f.settled_sweeps) (figures-are s h)) ∙ ap (λ (f : Figures). f.settled_sweeps) (same-figures s s' layout h h')
    ∙ ap (λ (f : Figures). f.settled_sweeps) (figures-are s' h') ∙ sym (half-alone s' h' few')

-- the narrower reading of exact
pub same-on-path-two : SameOnPathTwo
same-on-path-two s s' layout q q' = let h = of-told s (inl q) in let h' = of-told s' (inl q') in (same-figures s s' layout h h', same-result s s' layout h h')

-- ---- whatever results the promise of `durbin_watson_test` allows for two calls
abbrev asked : List Float → List Float → ℕ → Alternative → Choice → List Float → List Float → Sheet
asked e x k a c matrix parts = record { residuals = e; columns = x; count = k; alternative = a; choice = c; matrix_room = length matrix; part_room = length parts }

pub figures-allowed : (e e' x : List Float) (k : ℕ) (a : Alternative) (c : Choice) (matrix matrix' parts parts' : List Float)
    → length matrix ≡ length matrix' → length parts ≡ length parts'
    → AcceptedExact (asked e x k a c matrix parts) → AcceptedExact (asked e' x k a c matrix' parts')
    → (r r' : Outcome) (m m' p p' : List Float) → Promised e x k a c matrix parts r m p → Promised e' x k a c matrix' parts' r' m' p'
    → (r.kept ≡ r'.kept) × (r.work.sweeps ≡ r'.work.sweeps) × (r.work.bisections < 2000 → r'.work.bisections < 2000 → r.settled ≡ r'.settled)
    × (to_bits binary64 r.statistic ≡ to_bits binary64 r'.statistic → r ≡ r')
figures-allowed e e' x k a c matrix matrix' parts parts' same-matrix same_parts h h' r r' m m' p p' f f' =
    let s = asked e x k a c matrix parts in
    let s' = asked e' x k a c matrix' parts' in
    let layout : OneLayout s s' = record { columns = refl; count = refl; alternative = refl; choice = refl; matrix_room = same-matrix; part_room = same_parts } in
    let g = same-figures s s' layout h h' in
    rw (f.0, f'.0) (ap (λ (g : Figures). g.kept) g, ap (λ (g : Figures). g.sweeps) g, same-mark s s' layout h h', same-result s s' layout h h')
