use Rattle.roots.proofs.Ladder.{known}
use Rattle.roots.proofs.digits.root_of.Goals as goal

pub float_from_bits-result : goal.float_from_bits-result
float_from_bits-result c = known c.root_bits.result c.root_bits.ensures.number
