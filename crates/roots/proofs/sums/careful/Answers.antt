-- `careful`: the digits and exponents of two numbers (SumBits.antt: `by-fields`).
use Rattle.std.proofs.Common.{arith}
use Rattle.roots.proofs.SumBits.{by-fields}
use Rattle.roots.proofs.sums.careful.Goals as goal

pub returns : goal.returns
returns c = rw (c.min.ensures, c.rounded.ensures) (by-fields c.of_bits-x.ensures c.of_bits-y.ensures (omega arith) c.root_below-r.ensures)
