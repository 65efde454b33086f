-- A number is given exactly when its condition holds and none earlier in document 01's order does: what the test refuses is what the first row that holds in the
-- table of specs/Document.antt gives. One idea: the test's cases and the table's rows are split side by side, in the order tried. Assumes nothing.
use mathlib.Core.Path.{◌≡◌, refl, sym, ap, ◌∙◌, subst}
use mathlib.Core.Logic.{◌⊎◌, inl, inr}
use mathlib.Core.Bool.{Bool, true, false, not, ◌&&◌, cond, true≢false}
use Prim.Native.Nat.{ℕ, ◌*◌}
use native.Mathlib.Omega.{arith}
use mathlib.Core.List.{List, [], ◌∷◌}
use lib.Dec.{T, ltb, leb, eqb, ltb→lt}
use borrow.Author.Tests.{lt-ltb}
use lib.ListN.{length}
use lib.Ieee.{Float, eq, lt}
use lib.Ieee.Scale.{finite}
use Rattle.std.specs.Prelude.{Option, Some, None, Result, Ok, Err}
use Rattle.floats.specs.Words.{plus_zero}
use Rattle.floats.specs.Search.{first_where, first_bad}
use Rattle.autocorrelation.specs.declared.StatisticError.{StatisticError}
use Rattle.autocorrelation.proofs.Rules.{accepted}
use Rattle.autocorrelation.specs.Statistic.{squares, differences, durbin_watson, durbin_watson_answer, value}
use Rattle.elementary.specs.declared.NormalLaw.{NormalLaw}
use Rattle.columns.specs.Sheet.{columns_of}
use Rattle.design.specs.Matrix.{Matrix, finite_matrix}
use Rattle.design.specs.Factor.{pivots_of, fails_at}
use Rattle.design.specs.Inverse.{inverse_of}
use Rattle.design.specs.Law.{law_from, law_answer}
use Rattle.outcome.specs.declared.Alternative.{Alternative}
use Rattle.projection.specs.Projection.{mam_of}
use Rattle.eigen.specs.Spectrum.{numbers_of, spectrum_of, kept_numbers, delivered_of}
use Rattle.weights.specs.Weights.{weights_of}
use Rattle.imhof.specs.Imhof.{imhof_of}
use Rattle.imhof.specs.declared.Estimate.{Estimate}
use Rattle.imhof.specs.declared.ExactError.{ExactError}
use Rattle.imhof.specs.declared.ExactError.TheVariants.{NoWeight, NotFinite}
use Rattle.imhof.proofs.Probability.{no-weight}
use Rattle.outcome.specs.Refusals.{passed, refusal, passes, first_of, columns_refusal, statistic_refusal}
use Rattle.outcome.specs.Result.{wants_exact, direct}
use Rattle.outcome.specs.declared.refusals.TestError.TheVariants.{Statistic}
use Rattle.outcome.proofs.PassLaws.{reason-refuses}
use Rattle.dwtest.specs.Verdict.{normal_path, exact_path, by_law}
use Rattle.dwtest.proofs.TestLaws.{columns-refused, statistic-refused, rows-refused, runs-pass}
use Rattle.outcome.specs.Rooms.{room_of}
use Rattle.dwtest.specs.Layout.{layout_from, layout_of}
use Rattle.dwtest.specs.Test.{asking, answer_of, design_of, test_of}
use Rattle.outcome.specs.declared.Asked.{Asked}
use Rattle.theorems.specs.Document.{Row, row, first_given, found, found_at, empty, broken, last_rows, rows, Given}
use Rattle.outcome.specs.declared.Refusal.{Refusal}
use Rattle.outcome.specs.declared.Choice.{Choice}
use Rattle.outcome.specs.declared.Leaving.{Leaving}

-- ---- the first row that holds

none-given : (g : Refusal) → passes g ≡ false → passed ≡ g → ⊥
none-given g q e = true≢false (ap passes e ∙ q)

pub given : (rs : List Row) (g : Refusal) → passes g ≡ false → first_given rs ≡ g → Given rs g
unfolding first_given Given
given [] g q e = none-given g q e
given (r ∷ rest) g q e = go r.when refl (given rest g q) e
  where
    go : (b : Bool) → r.when ≡ b → (first_given rest ≡ g → Given rest g) → cond b r.gives (first_given rest) ≡ g
        → ((r.when ≡ true) × (r.gives ≡ g)) ⊎ ((r.when ≡ false) × Given rest g)
    go true h later e = inl (h, e)
    go false h later e = inr (h, later e)

pub is-given : (rs : List Row) (g : Refusal) → Given rs g → first_given rs ≡ g
unfolding first_given Given
is-given [] g h = absurd h
is-given (r ∷ rest) g (inl h) = rw h.0 h.1
is-given (r ∷ rest) g (inr h) = rw h.0 (is-given rest g h.1)

-- ---- the law's two rows

law_refused : Bool → NormalLaw → Refusal
law_refused due law =
    cond (due && not (finite law.mean && finite law.variance)) (refusal 13 5) (cond (due && not (lt plus_zero law.variance)) (refusal 14 0) passed)

by-law : (law : NormalLaw) (asked : Asked) (left : Leaving) → (by_law (law_answer law) asked left).refusal ≡ law_refused true law
unfolding law_refused
by-law law asked left = go (finite law.mean && finite law.variance) refl (lt plus_zero law.variance) refl
  where
    go : (f : Bool) → finite law.mean && finite law.variance ≡ f → (s : Bool) → lt plus_zero law.variance ≡ s → (by_law (law_answer law) asked left).refusal ≡ law_refused true law
    go false p s q = rw (p) refl
    go true p false q = rw (p, q) refl
    go true p true q = rw (p, q) refl

normal-refused : (x : List Float) (n k : ℕ) (i : Matrix) (asked : Asked) (left : Leaving) → (normal_path (layout_from x n k i) asked left).refusal ≡ law_refused (not (ltb asked.rows 5)) (law_from x n k i)
unfolding normal_path law_refused
normal-refused x n k i asked left = go (ltb asked.rows 5) refl
  where
    go : (b : Bool) → ltb asked.rows 5 ≡ b → (normal_path (layout_from x n k i) asked left).refusal ≡ law_refused (not (ltb asked.rows 5)) (law_from x n k i)
    go true h = rw h refl
    go false h = rw h (by-law (law_from x n k i) asked left)

-- ---- the exact path's rows, and the law's where no weight is left

pub valued : {v : Estimate} → ◌≡◌ {A = Result Estimate ExactError} (Ok v) (Err NoWeight) → ⊥
valued q = let z : ◌≡◌ {A = ℕ} 0 1 = cc in omega arith

-- there is a weight, or there is none
pub weight-left : (es : List Float) (d : Float) (q : Result Estimate ExactError) → (imhof_of es d).answer ≡ q → (q ≡ Err NoWeight → ⊥) → empty (weights_of es d) ≡ false
weight-left es d q h never = go (weights_of es d) refl
  where
    go : (ws : List Float) → weights_of es d ≡ ws → empty ws ≡ false
    go [] e = absurd (never (sym h ∙ (no-weight es d).1 e))
    go (w ∷ ws) e = refl

pub none_left : (es : List Float) (d : Float) → (imhof_of es d).answer ≡ Err NoWeight → empty (weights_of es d) ≡ true
none_left es d h = rw ((no-weight es d).0 h) refl

few : (n : ℕ) → ltb n 3 ≡ true → ltb n 5 ≡ true
few n h = lt-ltb n 5 (omega (arith, ltb→lt n 3 (subst T (sym h) tt)))

module _ (x : List Float) (n k : ℕ) (inverse : Matrix) (d : Float) (a : Alternative) where
  abbrev product : List Float
  product = mam_of x inverse n k

  abbrev kept : List Float
  kept = kept_numbers x inverse n k

  exact_rows : List Row
  exact_rows =
      row (found (first_bad product)) 13 2
      ∷ row (found (first_bad (numbers_of n product))) 13 3
      ∷ row (broken (imhof_of kept d).answer) 13 4
      ∷ row (empty (weights_of kept d) && not (ltb n 5) && not (finite (law_from x n k inverse).mean && finite (law_from x n k inverse).variance)) 13 5
      ∷ row (empty (weights_of kept d) && not (ltb n 5) && not (lt plus_zero (law_from x n k inverse).variance)) 14 0
      ∷ []

  exact-refused : (exact_path (layout_from x n k inverse) (asking d a n)).refusal ≡ first_given exact_rows
  unfolding exact_path spectrum_of delivered_of exact_rows first_given law_refused
  exact-refused = go (first_bad product) refl (first_bad (numbers_of n product)) refl (imhof_of kept d).answer refl
    where
      go : (f : Option ℕ) → first_bad product ≡ f → (g : Option ℕ) → first_bad (numbers_of n product) ≡ g → (q : Result Estimate ExactError) → (imhof_of kept d).answer ≡ q
          → (exact_path (layout_from x n k inverse) (asking d a n)).refusal ≡ first_given exact_rows
      go (Some t) p g q r s = rw (p) refl
      go None p (Some t) q r s = rw (p, q) refl
      go None p None q (Err NoWeight) s = rw (p, q, s, none_left kept d s) (unfold normal_path in normal-refused x n k inverse (asking d a n) _)
      go None p None q (Err NotFinite) s = rw (p, q, s) refl
      go None p None q (Ok v) s = rw (p, q, s, weight-left kept d (Ok v) s valued) refl

-- ---- the whole

module _ (e x : List Float) (k : ℕ) (a : Alternative) (choice : Choice) (matrix_room part_room : ℕ) where
  abbrev n : ℕ
  n = length e

  abbrev answer : Refusal
  answer = (test_of e x k a choice matrix_room part_room).refusal

  abbrev table : Refusal
  table = first_given (rows e x k choice matrix_room part_room)

  -- past refusals 1 to 11 and stage 1 of 13
  answered : (answer_of room_of n (layout_of x n k) (asking (durbin_watson e) a n) choice matrix_room part_room).refusal ≡ first_given (last_rows e x k choice matrix_room part_room)
  unfolding first_given first_of law_refused exact_rows
  answered = go (ltb n 3) refl (wants_exact choice n) refl (ltb matrix_room (room_of n)) refl (ltb part_room 8004) refl
    where
      go : (f : Bool) → ltb n 3 ≡ f → (w : Bool) → wants_exact choice n ≡ w → (m : Bool) → ltb matrix_room (room_of n) ≡ m → (p : Bool) → ltb part_room 8004 ≡ p
          → (answer_of room_of n (layout_of x n k) (asking (durbin_watson e) a n) choice matrix_room part_room).refusal ≡ first_given (last_rows e x k choice matrix_room part_room)
      go true f w g m h p j = rw (f, few n f) refl
      go false f false g m h p j = rw (f, g) (unfold normal_path in normal-refused x n k (inverse_of x n k) (asking (durbin_watson e) a n) direct)
      go false f true g true h p j = rw (f, g, h) refl
      go false f true g false h true j = rw (f, g, h, j) refl
      go false f true g false h false j = rw (f, g, h, j) (unfold exact_path in exact-refused x n k (inverse_of x n k) (durbin_watson e) a)

  -- refusal 11 and stage 1 of 13, then the answer
  decided : (design_of room_of x n k (asking (durbin_watson e) a n) choice matrix_room part_room).refusal ≡
      cond (found (first_where k (fails_at x n))) (refusal 11 (found_at (first_where k (fails_at x n))))
      (cond (not (finite_matrix k (inverse_of x n k))) (refusal 13 1) (first_given (last_rows e x k choice matrix_room part_room)))
  unfolding design_of first_of pivots_of
  decided = go (first_where k (fails_at x n)) refl (finite_matrix k (inverse_of x n k)) refl
    where
      go : (f : Option ℕ) → first_where k (fails_at x n) ≡ f → (b : Bool) → finite_matrix k (inverse_of x n k) ≡ b
          → (design_of room_of x n k (asking (durbin_watson e) a n) choice matrix_room part_room).refusal ≡
          cond (found (first_where k (fails_at x n))) (refusal 11 (found_at (first_where k (fails_at x n))))
          (cond (not (finite_matrix k (inverse_of x n k))) (refusal 13 1) (first_given (last_rows e x k choice matrix_room part_room)))
      go (Some i) f b g = rw f refl
      go None f false g = rw (f, g) refl
      go None f true g = rw (f, g) answered

  -- rows 1 to 4, and 5 to 9, each with what comes after
  columns-rows : (after : Refusal) → cond (eqb k 0) (refusal 1 0)
      (cond (ltb 256 n) (refusal 2 0)
      (cond (ltb 8 k) (refusal 2 1)
      (cond (not (eqb (length x) (k * n))) (refusal 3 0) (cond (found (first_bad x)) (refusal 4 (found_at (first_bad x))) after))))
      ≡ cond (passes (columns_refusal (columns_of x n k))) after (columns_refusal (columns_of x n k))
  columns-rows after = go (eqb k 0) refl (ltb 256 n) refl (ltb 8 k) refl (eqb (length x) (k * n)) refl (first_bad x) refl
    where
      go : (none : Bool) → eqb k 0 ≡ none → (long : Bool) → ltb 256 n ≡ long → (wide : Bool) → ltb 8 k ≡ wide → (run : Bool) → eqb (length x) (k * n) ≡ run
          → (column : Option ℕ) → first_bad x ≡ column
          → cond none (refusal 1 0) (cond long (refusal 2 0) (cond wide (refusal 2 1) (cond (not run) (refusal 3 0) (cond (found column) (refusal 4 (found_at column)) after))))
          ≡ cond (passes (columns_refusal (columns_of x n k))) after (columns_refusal (columns_of x n k))
      go true a b c d f g h i j = rw a refl
      go false a true c d f g h i j = rw (a, c) refl
      go false a false c true f g h i j = rw (a, c, f) refl
      go false a false c false f false h i j = rw (a, c, f, h) refl
      go false a false c false f true h (Some t) j = rw (a, c, f, h, j) refl
      go false a false c false f true h None j = rw (a, c, f, h, j) refl

  residuals-rows : (after : Refusal) → cond (eqb n 0) (refusal 5 0)
      (cond (eqb n 1) (refusal 6 0)
      (cond (found (first_bad e)) (refusal 7 (found_at (first_bad e)))
      (cond (eq (squares e) plus_zero) (refusal 8 0) (cond (not (finite (squares e) && finite (differences e))) (refusal 9 0) after))))
      ≡ cond (passes (statistic_refusal (durbin_watson_answer e))) after (statistic_refusal (durbin_watson_answer e))
  unfolding durbin_watson_answer
  residuals-rows after = go (eqb n 0) refl (eqb n 1) refl (first_bad e) refl (eq (squares e) plus_zero) refl (finite (squares e) && finite (differences e)) refl
    where
      go : (zero : Bool) → eqb n 0 ≡ zero → (single : Bool) → eqb n 1 ≡ single → (residual : Option ℕ) → first_bad e ≡ residual
          → (still : Bool) → eq (squares e) plus_zero ≡ still → (fine : Bool) → finite (squares e) && finite (differences e) ≡ fine
          → cond zero (refusal 5 0) (cond single (refusal 6 0) (cond (found residual) (refusal 7 (found_at residual)) (cond still (refusal 8 0) (cond (not fine) (refusal 9 0) after))))
          ≡ cond (passes (statistic_refusal (durbin_watson_answer e))) after (statistic_refusal (durbin_watson_answer e))
      go true a b c d f g h i j = rw a refl
      go false a true c d f g h i j = rw (a, c) refl
      go false a false c (Some t) f g h i j = rw (a, c, f) refl
      go false a false c None f true h i j = rw (a, c, f, h) refl
      go false a false c None f false h false j = rw (a, c, f, h, j) refl
      go false a false c None f false h true j = rw (a, c, f, h, j) refl

  -- where nothing is refused, the statistic is Durbin and Watson's
  pub value-is : passes (statistic_refusal (durbin_watson_answer e)) ≡ true → value (durbin_watson_answer e) ≡ durbin_watson e
  value-is q = go (durbin_watson_answer e) refl q
    where
      go : (s : Result Float StatisticError) → durbin_watson_answer e ≡ s → passes (statistic_refusal s) ≡ true → value s ≡ durbin_watson e
      go (Ok d) h q = sym (accepted e d h).is
      go (Err why) h q = absurd (true≢false (sym q ∙ reason-refuses (Statistic why)))

  -- THE ORDER: the test refuses what the first row that holds gives, and nothing where none does
  pub as-document : answer ≡ table
  unfolding first_given
  as-document = go (passes (columns_refusal (columns_of x n k))) refl (passes (statistic_refusal (durbin_watson_answer e))) refl (leb n k) refl
    where
      go : (c : Bool) → passes (columns_refusal (columns_of x n k)) ≡ c → (s : Bool) → passes (statistic_refusal (durbin_watson_answer e)) ≡ s → (t : Bool) → leb n k ≡ t → answer ≡ table
      go false c s d t f =
          ap (λ o. o.refusal) (columns-refused room_of e x k a choice matrix_room part_room (columns_of x n k) refl c).0 ∙ sym (columns-rows _ ∙ rw c refl)
      go true c false d t f =
          ap (λ o. o.refusal) (statistic-refused room_of e x k a choice matrix_room part_room (columns_of x n k) refl c (durbin_watson_answer e) refl d).0
          ∙ sym (columns-rows _ ∙ rw c (residuals-rows _ ∙ rw d refl))
      go true c true d true f =
          ap (λ o. o.refusal) (rows-refused room_of e x k a choice matrix_room part_room (columns_of x n k) refl c (durbin_watson_answer e) refl d (rw f refl)).0
          ∙ rw f (sym (columns-rows _ ∙ rw c (residuals-rows _ ∙ rw d refl)))
      go true c true d false f =
          ap (λ o. o.refusal) (runs-pass room_of e x k a choice matrix_room part_room (columns_of x n k) refl c (durbin_watson_answer e) refl d (rw f refl)).0
          ∙ rw (value-is d) (decided ∙ sym (columns-rows _ ∙ rw c (residuals-rows _ ∙ rw (d, f) refl)))

  -- so a refusal is given exactly when its row holds and none above it does
  pub exactly-when : (g : Refusal) → passes g ≡ false
      → (answer ≡ g → Given (rows e x k choice matrix_room part_room) g) × (Given (rows e x k choice matrix_room part_room) g → answer ≡ g)
  exactly-when g q = (λ h. given (rows e x k choice matrix_room part_room) g q (sym as-document ∙ h), λ h. as-document ∙ is-given (rows e x k choice matrix_room part_room) g h)
