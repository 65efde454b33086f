use Rattle.ql.proofs.SizeLaws.{le-size}
use Rattle.ql.proofs.is_negligible.Goals as goal

pub returns : goal.returns
returns c = rw c.size.ensures (le-size _ _)
