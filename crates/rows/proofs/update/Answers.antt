use Rattle.std.proofs.Common.{◌<◌, length, Float, refl, subst, arith}
use Rattle.floats.specs.Words.{◌‼◌}
use Rattle.rows.proofs.UpdateLaws.{stored-more, stored-rest}
use Rattle.rows.proofs.update.Goals as goal

pub loop-j-init : goal.loop-j-init
loop-j-init g c = record { done = λ i h. absurd (omega arith); rest = λ i h. refl }

pub loop-j-preserved : goal.loop-j-preserved
loop-j-preserved g c =
    let l = c.loop-j in
    let inside : l.j < length l.row = omega arith in
    let here : goal.F-post g c.args.f l.j (c.args.row.now ‼ l.j) c.f.result = subst (λ (x : Float). goal.F-post g c.args.f l.j x c.f.result) (l.invariant.rest l.j (omega arith)) c.f.ensures in
    record {
      done = stored-more (λ i x. goal.F-post g c.args.f i (c.args.row.now ‼ i) x) l.row l.j c.f.result inside l.invariant.done here;
      rest = stored-rest l.row c.args.row.now l.j c.f.result l.invariant.rest;
    }

pub returns-clause-each : goal.returns-clause-each
returns-clause-each g c = λ j h. c.loop-j.invariant.done j (omega arith)
