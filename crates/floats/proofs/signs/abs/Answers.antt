use Rattle.std.proofs.Common.{◌∙◌}
use Rattle.floats.proofs.SignLaws.{plain-sign}
use Rattle.floats.proofs.signs.abs.Goals as goal

pub returns : goal.returns
returns c = c.abs.ensures.value ∙ plain-sign c.args.x
