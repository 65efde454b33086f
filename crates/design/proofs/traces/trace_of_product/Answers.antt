use Rattle.std.proofs.Common.{rules, sym, ◌∙◌}
use Rattle.floats.specs.Sums.{sum_of}
use Rattle.floats.specs.Words.{◌⊗◌}
use Rattle.design.specs.Matrix.{entry}
use Rattle.design.proofs.TraceLaws.{trace-product}
use Rattle.design.proofs.traces.trace_of_product.Goals as goal

pub returns : goal.returns
returns c =
    let a = c.args in
    c.sum_of.ensures (λ i. sum_of a.k (λ m. entry a.a.now i m ⊗ entry a.b.now m i)) (λ i x h p. search rules)
    ∙ sym (trace-product a.k a.a.now a.b.now c.requires)
