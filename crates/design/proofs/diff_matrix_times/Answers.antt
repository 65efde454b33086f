use Rattle.std.proofs.Common.{rules}
use Rattle.floats.proofs.TableLaws.{is-table}
use Rattle.design.proofs.diff_matrix_times.Goals as goal

pub returns : goal.returns
returns c = rw c.requires (is-table _ _ _ c.update.ensures.kept (λ j h. search (rules, c.update.ensures.each j h)))
