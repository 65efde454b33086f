use Rattle.elementary.specs.Sin.{sin_of}
use Rattle.std.proofs.Common.{◌∙◌}
use lib.Ieee.{div, of_bits}
use Rattle.elementary.proofs.sin.Goals.{then-x, else-x}
use Rattle.elementary.proofs.sin.Goals as goal

pub returns-then-x-2 : goal.returns-then-x-2
unfolding sin_of div of_bits
returns-then-x-2 c = rw c.if-x-2.true

pub returns-else-x-2 : goal.returns-else-x-2
unfolding sin_of div of_bits
returns-else-x-2 c = elim c.if-x.branch [
  | then-x w ↦ w.below-is ∙ rw (c.if-x-2.false, w.if-x.true)
  | else-x w ↦ w.below-is ∙ rw (c.if-x-2.false, w.if-x.false, c.sin_reduced-y.ensures)
]
