-- What passing a check tells: the columns are sound, so their sizes fit; there are more rows than columns; every pivot holds; both rooms are long enough. Assumes nothing.
use mathlib.Core.Path.{◌≡◌, refl, sym, ap, ◌∙◌, subst}
use mathlib.Core.Bool.{Bool, true, false, not, cond, true≢false}
use Prim.Native.Nat.{ℕ, ◌≤◌, ◌<◌}
use mathlib.Core.List.{List, [], ◌∷◌}
use Rattle.std.specs.Prelude.{Result, Ok, Err}
use lib.Dec.{T, ltb, leb, nltb→le, nleb→lt}
use lib.Ieee.{Float}
use Rattle.columns.specs.Sheet.{Design, columns_of}
use Rattle.columns.specs.declared.SheetSize.{SheetSize}
use Rattle.columns.specs.declared.ColumnsError.{ColumnsError}
use Rattle.columns.specs.declared.ColumnsError.TheVariants as columns
use Rattle.columns.proofs.SheetLaws.{sound-columns}
use Rattle.design.specs.Matrix.{Matrix, finite_matrix}
use Rattle.design.specs.declared.FailedPivot.{FailedPivot}
use Rattle.autocorrelation.specs.declared.StatisticError.TheVariants as statistic
use Rattle.imhof.specs.Parts.{most_parts}
use Rattle.imhof.specs.Quadrature.{Quadrature}
use Rattle.records.specs.Answer.{answer_of}
use Rattle.records.proofs.AnswerLaws.{answer-short}
use Rattle.outcome.specs.Rooms.{part_room}
use Rattle.outcome.specs.Refusals.{passed, refusal, passes, first_of, refusal_of, refusal_in, columns_refusal, rows_refusal, pivots_refusal, inverse_refusal, rooms_of, room_refusal, not_finite, records_refusal}
use Rattle.outcome.specs.declared.Refusal.{Refusal}
use Rattle.outcome.specs.declared.refusals.Stage.TheVariants.{Inverse, Product, Eigenvalues, Integral, Law}
use Rattle.outcome.specs.declared.refusals.TestError.{TestError}
use Rattle.outcome.specs.declared.refusals.TestError.TheVariants.{Columns, Statistic, FewRows, Pivot, MatrixRoom, PartRoom, NotFinite, NotSpread}

-- a size of n rows and k columns
abbrev pub size : ℕ → ℕ → SheetSize
size n k = record { rows = n; columns = k }

-- what is told of columns that pass
pub record Sized (x : List Float) (n k : ℕ) : Type 0 where
  pub sound : columns_of x n k ≡ Ok (size n k)
  pub some : 0 < k
  pub fits : Design (size n k) x

untruth : (b : Bool) → b ≡ false → T (not b)
untruth b h = subst (λ (c : Bool). T (not c)) (sym h) tt

-- no reason passes
pub reason-refuses : (why : TestError) → passes (refusal_of why) ≡ false
reason-refuses (Columns columns.NoColumn) = refl
reason-refuses (Columns columns.RowsOver) = refl
reason-refuses (Columns columns.ColumnsOver) = refl
reason-refuses (Columns columns.WrongLength) = refl
reason-refuses (Columns (columns.NotFinite t)) = refl
reason-refuses (Statistic statistic.Empty) = refl
reason-refuses (Statistic statistic.Single) = refl
reason-refuses (Statistic (statistic.NotFinite t)) = refl
reason-refuses (Statistic statistic.ZeroSum) = refl
reason-refuses (Statistic statistic.Overflow) = refl
reason-refuses FewRows = refl
reason-refuses (Pivot failed) = refl
reason-refuses MatrixRoom = refl
reason-refuses PartRoom = refl
reason-refuses (NotFinite Inverse) = refl
reason-refuses (NotFinite Product) = refl
reason-refuses (NotFinite Eigenvalues) = refl
reason-refuses (NotFinite Integral) = refl
reason-refuses (NotFinite Law) = refl
reason-refuses NotSpread = refl

never : (why : TestError) → passes (refusal_of why) ≡ true → ⊥
never why h = true≢false (sym h ∙ reason-refuses why)

-- columns that pass are sound
sound-when : (c : Result SheetSize ColumnsError) → passes (columns_refusal c) ≡ true → (s : SheetSize) × (c ≡ Ok s)
sound-when (Err why) h = absurd (never (Columns why) h)
sound-when (Ok s) h = (s, refl)

pub sized_of : (x : List Float) (n k : ℕ) → passes (columns_refusal (columns_of x n k)) ≡ true → Sized x n k
sized_of x n k h =
    let found = sound-when (columns_of x n k) h in
    let told = sound-columns x n k found.1 in
    record { sound = found.1 ∙ ap (λ (s : SheetSize). Ok s) told.asked; some = told.some; fits = subst (λ (s : SheetSize). Design s x) told.asked told.design }

pub pivots-hold : (p : Result (Unit {0}) FailedPivot) → passes (pivots_refusal p) ≡ true → p ≡ Ok tt
pivots-hold (Ok hold) h = refl
pivots-hold (Err failed) h = absurd (never (Pivot failed) h)

-- what a check answers that nothing fails
abbrev suffice : Result (Unit {0}) TestError
suffice = Ok tt

-- more rows than columns
pub more_rows : (n k : ℕ) → passes (rows_refusal n k) ≡ true → k < n
more_rows n k h = go (leb n k) refl h
  where
    go : (b : Bool) → leb n k ≡ b → passes (refusal_in (cond b (Err FewRows) suffice)) ≡ true → k < n
    go true e r = absurd (true≢false (sym r))
    go false e r = nleb→lt n k (untruth (leb n k) e)

-- both rooms are long enough
pub rooms-fit : (wanted m p : ℕ) → passes (room_refusal wanted m p) ≡ true → (wanted ≤ m) × (part_room ≤ p)
rooms-fit wanted m p h = go (ltb m wanted) refl (ltb p part_room) refl h
  where
    go : (a : Bool) → ltb m wanted ≡ a → (b : Bool) → ltb p part_room ≡ b → passes (refusal_in (cond a (Err MatrixRoom) (cond b (Err PartRoom) suffice))) ≡ true → (wanted ≤ m) × (part_room ≤ p)
    go true q b r s = absurd (true≢false (sym s))
    go false q true r s = absurd (true≢false (sym s))
    go false q false r s = (nltb→le m wanted (untruth (ltb m wanted) q), nltb→le p part_room (untruth (ltb p part_room) r))

-- where it is the last, the inverse's refusal is the first of its list
pub inverse-alone : (k : ℕ) (i : Matrix) → first_of (inverse_refusal k i ∷ []) ≡ inverse_refusal k i
unfolding first_of
inverse-alone k i = go (finite_matrix k i)
  where
    checked : Bool → Refusal
    checked b = refusal_in (cond b (Ok i) (Err (NotFinite Inverse)))

    go : (b : Bool) → cond (passes (checked b)) passed (checked b) ≡ checked b
    go true = refl
    go false = refl

-- a list of records that is too short is refused as 12, place 2
pub short-is-12 : (n : ℕ) (q : Quadrature) → n < most_parts → records_refusal (answer_of n q) ≡ refusal 12 2
short-is-12 n q h = ap records_refusal (sym (answer-short n q h))
