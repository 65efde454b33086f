use Rattle.std.proofs.Common.{◌∙◌}
use Rattle.floats.proofs.SignLaws.{finite-same}
use Rattle.floats.proofs.signs.is_finite.Goals as goal

pub returns-clause-value : goal.returns-clause-value
returns-clause-value c = c.is_finite.ensures.value ∙ finite-same c.args.x
