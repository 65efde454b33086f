use Rattle.std.proofs.Common.{rules, tests, ◌∙◌, not}
use Rattle.std.proofs.lemmas.Iterator.{YieldsList-from_slice}
use Rattle.std.proofs.lemmas.Iterator.Search.{position_from_yields_List}
use Rattle.std.specs.Float.Ieee.Scale.{finite}
use Rattle.floats.specs.Search.{first_bad}
use Rattle.floats.proofs.FirstLaws.{position-first}
use Rattle.floats.proofs.HeldLaws.{held_by}
use Rattle.floats.proofs.search.first_bad.Goals as goal

pub returns-clause-value : goal.returns-clause-value
unfolding first_bad
returns-clause-value c =
    position_from_yields_List (λ x. not (finite x)) _ _ c.position.result c.position.ensures.ran (YieldsList-from_slice c.args.xs.now cc) (λ x b q k. search (rules, tests))
    ∙ position-first (λ x. not (finite x)) c.args.xs.now

pub returns-clause-held_by : goal.returns-clause-held_by
returns-clause-held_by c = held_by _ _ c.type_inv.xs
