use Rattle.std.proofs.Common.{◌≡◌, ◌++◌, List, length, replicate, drop, take, ap, ◌∙◌}
use lib.Seq.{length-take-le}
use Rattle.imhof.specs.declared.Part.{Part}
use Rattle.imhof.specs.Parts.{most_parts}
use Rattle.records.specs.Records.{zero_part}
use Rattle.records.proofs.clear.Goals as goal

pub returns : goal.returns
returns c =
    let ps = c.args.parts.now in
    let zero : c.default.result ≡ zero_part = λ i. record { lo = c.default.ensures.0 i; hi = c.default.ensures.1.0 i; value = c.default.ensures.1.1.0 i; error = c.default.ensures.1.1.1 i } in
    let filled : c.fill.new.self ≡ replicate (length (take most_parts ps)) c.default.result = c.fill.ensures.after (λ y h. h) in
    ap (λ (l : List Part). l ++ drop most_parts ps) (filled ∙ ap (λ n. replicate n c.default.result) (length-take-le most_parts ps c.requires) ∙ ap (replicate most_parts) zero)
