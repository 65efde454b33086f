-- The look before the first record, one record more, and all of them (LookLaws).
use Rattle.std.proofs.Common.{◌≡◌, ◌<◌, ap, ◌∙◌, arith}
use lib.Seq.{get_or-take, length-take-le}
use Rattle.imhof.specs.Parts.{part_at}
use Rattle.records.specs.Records.{look_of, noted_of}
use Rattle.records.proofs.LookLaws.{no_part, look_none, look-next}
use Rattle.records.proofs.survey.Goals as goal

pub loop-i-init : goal.loop-i-init
loop-i-init c = c.unseen-look.ensures ∙ look_none c.args.parts.now

pub loop-i-preserved : goal.loop-i-preserved
loop-i-preserved c =
    let i = c.loop-i.i in
    let ps = c.args.parts.now in
    let h : i < c.args.n = omega (arith, length-take-le c.args.n ps c.requires.1, c.loop-i-test.true) in
    c.noted-look.ensures ∙ ap (λ p. noted_of c.loop-i.look i p) (get_or-take c.args.n ps i no_part h) ∙ ap (λ l. noted_of l i (part_at ps i)) c.loop-i.invariant ∙ look-next ps i

pub returns : goal.returns
returns c =
    let all : c.loop-i.i ≡ c.args.n = omega (arith, length-take-le c.args.n c.args.parts.now c.requires.1, c.loop-i-test.false, c.loop-i.auto.i-end) in
    c.loop-i.invariant ∙ ap (look_of c.args.parts.now) all
