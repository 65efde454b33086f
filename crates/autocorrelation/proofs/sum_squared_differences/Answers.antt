use Rattle.std.proofs.Common.{rules, tests, ◌∙◌}
use Rattle.std.proofs.lemmas.Iterator.{YieldsList-from_slice, YieldsList-from_zip}
use Rattle.std.proofs.lemmas.Iterator.Consumers.{fold_from_yields_List}
use lib.Ieee.{neg, of_bits}
use Rattle.floats.specs.Words.{◌⊕◌, ◌⊖◌, square_of}
use Rattle.autocorrelation.proofs.Neighbours.{later, fold-differences}
use Rattle.autocorrelation.proofs.sum_squared_differences.Goals as goal

pub returns : goal.returns
unfolding neg of_bits
returns c =
    let e = c.args.e.now in
    fold_from_yields_List _ (λ s p. s ⊕ square_of (p.1 ⊖ p.0)) _ c.fold.result c.fold.ensures.ran
    (YieldsList-from_zip (YieldsList-from_slice e cc) (YieldsList-from_slice (later e) cc))
    (λ a x b q k. search (rules, tests))
    ∙ fold-differences e c.requires
