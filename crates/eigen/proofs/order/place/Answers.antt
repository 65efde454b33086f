use Rattle.std.proofs.Common.{rules, tests}
use Rattle.std.proofs.lemmas.Iterator.{YieldsList-from_slice}
use Rattle.std.proofs.lemmas.Iterator.Search.{position_from_yields_List}
use Rattle.floats.specs.Signs.{before}
use Rattle.eigen.proofs.OrderLaws.{placed}
use Rattle.eigen.proofs.order.place.Goals as goal

pub returns : goal.returns
returns c =
    placed c.args.d.now c.args.x _ _
    (position_from_yields_List (λ y. before y c.args.x) _ _ c.position.result c.position.ensures.ran (YieldsList-from_slice c.args.d.now cc) (λ x b q k. search (rules, tests)))
    c.unwrap_or.ensures
