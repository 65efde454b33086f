use Rattle.std.proofs.Common.{rules, tests, ◌∙◌, ◌+◌}
use Rattle.std.proofs.lemmas.Iterator.{YieldsList-from_slice, YieldsList-from_zip}
use Rattle.std.proofs.lemmas.Iterator.Consumers.{fold_from_yields_List}
use lib.Ieee.{neg, of_bits}
use Rattle.floats.specs.Tables.{part}
use Rattle.floats.specs.Words.{◌⊕◌, ◌⊗◌}
use Rattle.floats.proofs.FoldLaws.{fold-stretches}
use Rattle.floats.proofs.sums.sum_products.Goals as goal

pub returns : goal.returns
unfolding neg of_bits
returns c =
    let xs = c.args.xs.now in
    let ys = c.args.ys.now in
    fold_from_yields_List _ (λ s p. s ⊕ p.0 ⊗ p.1) _ c.fold.result c.fold.ensures.ran
    (YieldsList-from_zip (YieldsList-from_slice (part c.args.a (c.args.a + c.args.n) xs) cc) (YieldsList-from_slice (part c.args.b (c.args.b + c.args.n) ys) cc))
    (λ a x b q k. search (rules, tests))
    ∙ fold-stretches xs ys c.args.a c.args.b c.args.n c.requires.0 c.requires.1
