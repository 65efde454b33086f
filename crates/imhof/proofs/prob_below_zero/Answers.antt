use Rattle.imhof.specs.Imhof.{imhof_of}
use Rattle.weights.specs.Weights.{weights_of}
use lib.Seq.{take_at}
use lib.ListN.{take}
use mathlib.Core.Path.{◌≡◌, sym, ap, ◌∙◌}
use Rattle.imhof.proofs.prob_below_zero.Goals as goal

pub returns : goal.returns
unfolding imhof_of
returns c = let ws = weights_of c.args.eigenvalues.now c.args.d in
    let taken : take c.shift-m.result c.shift-m.new.weights ≡ ws = ap (take c.shift-m.result) c.shift-m.ensures.weights_after ∙ take_at ws _ c.shift-m.result (sym c.shift-m.ensures.count) in
    rw taken at c.below_zero.ensures
