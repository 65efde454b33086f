-- The part that is lent holds the column's numbers, so its differences are the column's. Assumes nothing.
use Rattle.design.proofs.DifferenceLaws.{difference-part}
use Rattle.design.proofs.difference.difference_column.Goals as goal

pub returns : goal.returns
returns c = let a = c.args in
    rw c.diff_matrix_times.ensures (rw (difference-part a.columns.now a.from a.n c.requires.0))
