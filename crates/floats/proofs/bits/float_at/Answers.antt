use mathlib.Core.Path.{◌∙◌}
use Rattle.floats.proofs.bits.float_at.Goals as goal

pub returns : goal.returns
returns c = c.of_bits.ensures ∙ rw c.little_endian.ensures
