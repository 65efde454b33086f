use Rattle.weights.specs.Range.{high_end}
use Rattle.weights.proofs.range.high_end.Goals as goal

pub returns : goal.returns
unfolding high_end
returns c = rw (c.ln.ensures, c.ln-2.ensures, c.half_log_prod.ensures, c.two_by_count-t.ensures)
