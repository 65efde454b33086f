use Rattle.elementary.specs.Ln.{ln1p_by}
use lib.Ieee.{div, neg, of_bits}
use Rattle.elementary.proofs.ln_1p_by.Goals as goal

pub returns-then-x-6 : goal.returns-then-x-6
unfolding ln1p_by div neg of_bits
returns-then-x-6 c = rw (c.if-x.false, c.if-x-4.false, c.if-x-5.false, c.if-x-6.true)

pub returns : goal.returns
unfolding ln1p_by div neg of_bits
returns c = rw (c.if-x.false, c.if-x-4.false, c.if-x-5.false, c.if-x-6.false)
