use Rattle.std.proofs.Common.{◌∙◌}
use Rattle.floats.proofs.TableLaws.{replicate-table}
use Rattle.rows.proofs.fill.Goals as goal

pub returns : goal.returns
returns c = c.fill.ensures.after (λ y h. h) ∙ replicate-table _ _
