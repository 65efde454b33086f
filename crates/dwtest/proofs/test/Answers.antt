use mathlib.Core.Path.{refl, ap, sym, ◌∙◌, subst}
use lib.ListN.{length}
use Rattle.columns.proofs.SheetLaws.{sound-columns}
use Rattle.outcome.specs.Refusals.{passes, refusal_in, rows_refusal}
use Rattle.outcome.specs.Rooms.{room_of}
use Rattle.outcome.specs.declared.refusals.TestError.TheVariants as error
use Rattle.outcome.proofs.PassLaws.{reason-refuses}
use Rattle.dwtest.proofs.EndLaws.{refusal-ends}
use Rattle.dwtest.proofs.TestLaws.{columns-refused, statistic-refused, rows-refused, runs-pass}
use Rattle.dwtest.specs.Vouched.{Vouched}
use Rattle.dwtest.proofs.VouchLaws.{design-vouched}
use Rattle.dwtest.proofs.test.Goals as goal

pub returns-in_err-sheet : goal.returns-in_err-sheet
returns-in_err-sheet c = let a = c.args in
    let why = error.Columns c.in_err-sheet.field-0.0 in
    let s = columns-refused room_of a.residuals.now a.columns.now a.k a.alternative a.choice (length a.matrix.now) (length a.parts.now) _ c.in_err-sheet.ensures (reason-refuses why) in
    let end = refusal-ends a.residuals.now a.columns.now a.k a.alternative a.choice a.matrix.now a.parts.now c.from_residual.result why c.from_residual.ensures.1 s in
    record { value = end.0; matrix_after = end.1; parts_after = end.2; vouched = end.3 }

pub returns-in_err-statistic : goal.returns-in_err-statistic
returns-in_err-statistic c = let a = c.args in
    let why = error.Statistic c.in_err-statistic.field-0.0 in
    let s = statistic-refused room_of a.residuals.now a.columns.now a.k a.alternative a.choice (length a.matrix.now) (length a.parts.now) _ c.in_ok-sheet.ensures.1 refl _ (sym c.in_err-statistic.ensures.value) (reason-refuses why) in
    let end = refusal-ends a.residuals.now a.columns.now a.k a.alternative a.choice a.matrix.now a.parts.now c.from_residual-in_err-statistic.result why c.from_residual-in_err-statistic.ensures.1 s in
    record { value = end.0; matrix_after = end.1; parts_after = end.2; vouched = end.3 }

pub returns-in_err-check_rows : goal.returns-in_err-check_rows
returns-in_err-check_rows c = let a = c.args in
    let why = c.in_err-check_rows.field-0.0 in
    let fits = (sound-columns a.columns.now (length a.residuals.now) a.k c.in_ok-sheet.ensures.1).asked in
    let rows = ap refusal_in c.in_err-check_rows.ensures ∙ ap (λ z. rows_refusal z.rows z.columns) fits in
    let s = rows-refused room_of a.residuals.now a.columns.now a.k a.alternative a.choice (length a.matrix.now) (length a.parts.now) _ c.in_ok-sheet.ensures.1 refl _ (sym c.in_ok-statistic.ensures.value) refl (ap passes (sym rows) ∙ reason-refuses why) in
    let end = refusal-ends a.residuals.now a.columns.now a.k a.alternative a.choice a.matrix.now a.parts.now c.from_residual-in_err-check_rows.result why c.from_residual-in_err-check_rows.ensures.1 (rw rows s) in
    record { value = end.0; matrix_after = end.1; parts_after = end.2; vouched = end.3 }

pub returns : goal.returns
returns c = let a = c.args in
    let sheet = c.in_ok-sheet in
    let fits = (sound-columns a.columns.now (length a.residuals.now) a.k sheet.ensures.1).asked in
    let rows = ap refusal_in c.in_ok-check_rows.ensures ∙ ap (λ z. rows_refusal z.rows z.columns) fits in
    let s = runs-pass room_of a.residuals.now a.columns.now a.k a.alternative a.choice (length a.matrix.now) (length a.parts.now) _ sheet.ensures.1 refl _ (sym c.in_ok-statistic.ensures.value) refl (ap passes (sym rows)) in
    record { value = c.test_design.ensures.value ∙ rw (sheet.ensures.0, fits) (sym s.0); matrix_after = c.test_design.ensures.matrix_after ∙ rw (sheet.ensures.0, fits, s.1); parts_after = c.test_design.ensures.parts_after ∙ rw (sheet.ensures.0, fits, s.1); vouched = subst (λ o. Vouched o a.residuals.now) (sym c.test_design.ensures.value) (design-vouched a.residuals.now room_of _ _ _ _ _ _ _ c.in_ok-statistic.ensures.told) }
