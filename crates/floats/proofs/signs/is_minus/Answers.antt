use Rattle.floats.proofs.SignLaws.{sign_bit}
use borrow.Author.Rules.{rules}
use Rattle.floats.proofs.signs.is_minus.Goals as goal

pub returns : goal.returns
returns c = rw c.bits_of.ensures (sign_bit c.args.x (search rules))
