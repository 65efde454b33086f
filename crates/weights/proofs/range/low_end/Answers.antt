use Rattle.weights.specs.Range.{low_end}
use Rattle.weights.proofs.range.low_end.Goals as goal

pub returns : goal.returns
unfolding low_end
returns c = rw (c.ln.ensures, c.half_abs_sum.ensures)
