use mathlib.Core.Path.{ap, sym, ◌∙◌}
use lib.ListN.{length}
use Rattle.outcome.specs.Refusals.{passes, refusal_of, law_error}
use Rattle.outcome.specs.Result.{refused_of}
use Rattle.outcome.specs.Rooms.{room_of, part_room, cleared_of}
use Rattle.outcome.proofs.PassLaws.{reason-refuses}
use Rattle.dwtest.specs.Layout.{layout_from}
use Rattle.dwtest.specs.Verdict.{by_law}
use Rattle.dwtest.specs.declared.verdict.Said.TheVariants.{Answered, LawDue}
use Rattle.dwtest.proofs.TestLaws.{outcome-at, design-refused, design-said}
use Rattle.dwtest.proofs.test_design.Goals as goal

pub returns-in_err-inverse-clause-value : goal.returns-in_err-inverse-clause-value
returns-in_err-inverse-clause-value c = let a = c.args in
    let why = c.in_err-inverse.field-0.0 in
    let found = c.in_err-inverse.ensures.refusal in
    let s = design-refused room_of a.case.sheet.run.now a.case.sheet.size.rows a.case.sheet.size.columns a.case.asked a.case.choice (length a.matrix.now) (length a.parts.now) (ap passes (sym found) ∙ reason-refuses why) in
    outcome-at c.from_residual.result why c.from_residual.ensures.1 ∙ ap refused_of found ∙ sym s.0

pub returns-in_err-outcome-clause-value : goal.returns-in_err-outcome-clause-value
returns-in_err-outcome-clause-value c = let a = c.args in
    let why = c.in_err-outcome.field-0.0 in
    let s = design-said room_of a.case.sheet.run.now a.case.sheet.size.rows a.case.sheet.size.columns a.case.asked a.case.choice (length a.matrix.now) (length a.parts.now) c.in_ok-inverse.inverse (Answered (refused_of (refusal_of why))) c.in_ok-inverse.ensures.refusal c.in_ok-inverse.ensures.inverse c.in_err-outcome.ensures.value in
    outcome-at c.from_residual-in_err-outcome.result why c.from_residual-in_err-outcome.ensures.1 ∙ sym s.0

pub returns-in_err-outcome-clause-parts_after : goal.returns-in_err-outcome-clause-parts_after
returns-in_err-outcome-clause-parts_after c = let a = c.args in
    let why = c.in_err-outcome.field-0.0 in
    let s = design-said room_of a.case.sheet.run.now a.case.sheet.size.rows a.case.sheet.size.columns a.case.asked a.case.choice (length a.matrix.now) (length a.parts.now) c.in_ok-inverse.inverse (Answered (refused_of (refusal_of why))) c.in_ok-inverse.ensures.refusal c.in_ok-inverse.ensures.inverse c.in_err-outcome.ensures.value in
    c.in_err-outcome.ensures.parts_after ∙ ap (λ b. cleared_of b part_room a.parts.now) (sym s.1)

pub returns-in_err-law-in-LawDue-clause-value : goal.returns-in_err-law-in-LawDue-clause-value
returns-in_err-law-in-LawDue-clause-value c = let a = c.args in
    let said = c.in-LawDue in
    let found = c.in_err-law-in-LawDue.ensures ∙ ap (λ i. (layout_from a.case.sheet.run.now a.case.sheet.size.rows a.case.sheet.size.columns i).law) c.in_ok-inverse.ensures.inverse in
    let s = design-said room_of a.case.sheet.run.now a.case.sheet.size.rows a.case.sheet.size.columns a.case.asked a.case.choice (length a.matrix.now) (length a.parts.now) c.in_ok-inverse.inverse (LawDue said.left) c.in_ok-inverse.ensures.refusal c.in_ok-inverse.ensures.inverse (sym said.is ∙ c.in_ok-outcome.ensures.value) in
    outcome-at c.from_residual-in_err-law-in-LawDue.result (law_error c.in_err-law-in-LawDue.field-0.0) c.from_residual-in_err-law-in-LawDue.ensures.1 ∙ ap (λ l. by_law l a.case.asked said.left) found ∙ sym s.0

pub returns-in_err-law-in-LawDue-clause-parts_after : goal.returns-in_err-law-in-LawDue-clause-parts_after
returns-in_err-law-in-LawDue-clause-parts_after c = let a = c.args in
    let s = design-said room_of a.case.sheet.run.now a.case.sheet.size.rows a.case.sheet.size.columns a.case.asked a.case.choice (length a.matrix.now) (length a.parts.now) c.in_ok-inverse.inverse c.in_ok-outcome.field-0 c.in_ok-inverse.ensures.refusal c.in_ok-inverse.ensures.inverse c.in_ok-outcome.ensures.value in
    c.in_ok-outcome.ensures.parts_after ∙ ap (λ b. cleared_of b part_room a.parts.now) (sym s.1)

pub returns-in-Answered-clause-value : goal.returns-in-Answered-clause-value
returns-in-Answered-clause-value c = let a = c.args in
    let said = c.in-Answered in
    let s = design-said room_of a.case.sheet.run.now a.case.sheet.size.rows a.case.sheet.size.columns a.case.asked a.case.choice (length a.matrix.now) (length a.parts.now) c.in_ok-inverse.inverse (Answered said.outcome) c.in_ok-inverse.ensures.refusal c.in_ok-inverse.ensures.inverse (sym said.is ∙ c.in_ok-outcome.ensures.value) in
    sym s.0

pub returns-in-Answered-clause-parts_after : goal.returns-in-Answered-clause-parts_after
returns-in-Answered-clause-parts_after c = let a = c.args in
    let s = design-said room_of a.case.sheet.run.now a.case.sheet.size.rows a.case.sheet.size.columns a.case.asked a.case.choice (length a.matrix.now) (length a.parts.now) c.in_ok-inverse.inverse c.in_ok-outcome.field-0 c.in_ok-inverse.ensures.refusal c.in_ok-inverse.ensures.inverse c.in_ok-outcome.ensures.value in
    c.in_ok-outcome.ensures.parts_after ∙ ap (λ b. cleared_of b part_room a.parts.now) (sym s.1)

pub returns-in_ok-law-in-LawDue-clause-value : goal.returns-in_ok-law-in-LawDue-clause-value
returns-in_ok-law-in-LawDue-clause-value c = let a = c.args in
    let said = c.in-LawDue in
    let found = c.in_ok-law-in-LawDue.ensures ∙ ap (λ i. (layout_from a.case.sheet.run.now a.case.sheet.size.rows a.case.sheet.size.columns i).law) c.in_ok-inverse.ensures.inverse in
    let s = design-said room_of a.case.sheet.run.now a.case.sheet.size.rows a.case.sheet.size.columns a.case.asked a.case.choice (length a.matrix.now) (length a.parts.now) c.in_ok-inverse.inverse (LawDue said.left) c.in_ok-inverse.ensures.refusal c.in_ok-inverse.ensures.inverse (sym said.is ∙ c.in_ok-outcome.ensures.value) in
    c.by_law.ensures ∙ ap (λ l. by_law l a.case.asked said.left) found ∙ sym s.0

pub returns-in_ok-law-in-LawDue-clause-parts_after : goal.returns-in_ok-law-in-LawDue-clause-parts_after
returns-in_ok-law-in-LawDue-clause-parts_after c = let a = c.args in
    let s = design-said room_of a.case.sheet.run.now a.case.sheet.size.rows a.case.sheet.size.columns a.case.asked a.case.choice (length a.matrix.now) (length a.parts.now) c.in_ok-inverse.inverse c.in_ok-outcome.field-0 c.in_ok-inverse.ensures.refusal c.in_ok-inverse.ensures.inverse c.in_ok-outcome.ensures.value in
    c.in_ok-outcome.ensures.parts_after ∙ ap (λ b. cleared_of b part_room a.parts.now) (sym s.1)
