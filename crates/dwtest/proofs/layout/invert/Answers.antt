use mathlib.Core.Path.{ap, sym, ◌∙◌}
use Rattle.std.proofs.lemmas.Result.{err_from_is_err_and}
use Rattle.design.specs.Inverse.{inverse_from}
use Rattle.design.specs.Factor.{factor_of, rows_made}
use Rattle.outcome.specs.Refusals.{refusal_in, inverse_refusal, first_of}
use Rattle.dwtest.proofs.TestLaws.{past-pivots}
use Rattle.dwtest.proofs.layout.invert.Goals as goal

pub returns-in_err-factor-clause-refusal : goal.returns-in_err-factor-clause-refusal
unfolding first_of
returns-in_err-factor-clause-refusal c =
    let p = err_from_is_err_and c.from_residual.result c.from_residual.ensures.1 in rw (p.1, p.2, ← c.in_err-factor.ensures.value)

pub returns-clause-refusal : goal.returns-clause-refusal
returns-clause-refusal c = let args = c.args in
    let hold = sym c.in_ok-factor.ensures.value in
    let inv = c.inverse_of_factor.ensures ∙ ap (λ z. inverse_from z args.sheet.size.columns) (c.in_ok-factor.ensures.l_after ∙ ap (λ p. factor_of args.sheet.run.now args.sheet.size.rows (rows_made args.sheet.size.columns p)) hold) in
    ap refusal_in c.check_inverse.ensures ∙ ap (inverse_refusal args.sheet.size.columns) inv ∙ sym (past-pivots args.sheet.run.now args.sheet.size.rows args.sheet.size.columns hold)
