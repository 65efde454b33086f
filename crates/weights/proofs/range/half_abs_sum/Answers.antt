use Rattle.std.proofs.Common.{rules, ◌≡◌, Float, ap, ◌∙◌}
use Rattle.std.proofs.lemmas.Iterator.Consumers.{fold_from_yields_List}
use Rattle.std.proofs.lemmas.Iterator.{YieldsList-from_slice}
use Rattle.std.specs.List.{fold}
use Rattle.floats.specs.Signs.{abs_of}
use Rattle.floats.specs.Words.{◌⊕◌, ◌⊗◌, minus_zero}
use Rattle.elementary.specs.Patterns.{half}
use Rattle.floats.proofs.FoldLaws.{fold-sum}
use lib.Ieee.{nan}
use Rattle.weights.proofs.range.half_abs_sum.Goals as goal

pub returns : goal.returns
returns c = let folded : c.fold.result ≡ fold (λ s w. s ⊕ abs_of w) minus_zero c.args.weights.now = fold_from_yields_List _ (λ s w. s ⊕ abs_of w) minus_zero c.fold.result c.fold.ensures.ran (YieldsList-from_slice c.args.weights.now cc) (λ a x b q h. search (rules, h)) in
    ap (λ (s : Float). half ⊗ s) (folded ∙ fold-sum abs_of nan c.args.weights.now)
