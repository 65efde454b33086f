use Rattle.std.proofs.Common.{rules}
use Rattle.floats.proofs.TableLaws.{is-table}
use Rattle.rows.proofs.copy.Goals as goal

pub returns : goal.returns
returns c = is-table _ _ _ c.update.ensures.kept (λ j h. search (rules, c.update.ensures.each j h))
