use mathlib.Core.Path.{◌≡◌, sym, ap, ◌∙◌}
use lib.Dec.{eqb}
use lib.ListN.{length}
use Rattle.outcome.specs.Codes.{choice_of}
use Rattle.outcome.specs.Rooms.{part_room, cleared_of}
use Rattle.dwtest.specs.Test.{touched}
use Rattle.dwexport.proofs.CallLaws.{answered-gives}
use Rattle.dwexport.proofs.dwexport_test.Goals as goal

pub returns-in-Ok-clause-parts_after : goal.returns-in-Ok-clause-parts_after
returns-in-Ok-clause-parts_after c = let a = c.args in
    let s = answered-gives a.residuals.now a.columns.now a.k a.alternative a.choice a.matrix.now a.parts.now a.answer.now (ap (λ r. eqb r 0) (sym c.in-Ok.ensures.status)) in
    let same : c.in-Ok.choice ≡ choice_of a.choice = cc (c.in-Ok.ensures.codes.1) in
    c.durbin_watson_test-outcome.ensures.parts_after ∙ ap (λ code. cleared_of (touched a.residuals.now a.columns.now a.k code (length a.matrix.now) (length a.parts.now)) part_room a.parts.now) same ∙ s.2
