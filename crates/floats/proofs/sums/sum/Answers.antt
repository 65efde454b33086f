use Rattle.std.proofs.Common.{rules, tests, ◌∙◌}
use Rattle.std.proofs.lemmas.Iterator.{YieldsList-from_slice}
use Rattle.std.proofs.lemmas.Iterator.Consumers.{fold_from_yields_List}
use Rattle.std.specs.Float.{nan}
use lib.Ieee.{neg, of_bits}
use Rattle.floats.specs.Words.{◌⊕◌}
use Rattle.floats.proofs.FoldLaws.{fold-sum}
use Rattle.floats.proofs.sums.sum.Goals as goal

pub returns : goal.returns
unfolding neg of_bits
returns c =
    fold_from_yields_List _ (λ s x. s ⊕ x) _ c.fold.result c.fold.ensures.ran (YieldsList-from_slice c.args.xs.now cc) (λ a x b q k. search (rules, tests))
    ∙ fold-sum (λ x. x) nan c.args.xs.now
