-- `subnormal`: the digits z places up (Cases.antt: `shift`), and those of the root down again (SumBits.antt: `subnormal-bits`).
use Rattle.std.proofs.Common.{◌-◌, arith}
use lib.Count.{count_leading_zeros}
use Rattle.roots.proofs.Cases.{Shift, shift}
use Rattle.roots.proofs.SumBits.{smaller-below, subnormal-bits, zeros}
use Rattle.roots.proofs.sums.subnormal.Goals as goal

pub returns-then-p-eq0 : goal.returns-then-p-eq0
returns-then-p-eq0 c = zeros c.args.p c.args.q c.if-p-eq0.true c.requires.0

pub overflow_sub-z : goal.overflow_sub-z
overflow_sub-z c = (shift c.args.p (omega arith) c.requires.1).zeros

pub invariant_of-up : goal.invariant_of-up
invariant_of-up c =
    let p = c.args.p in
    let z = count_leading_zeros 64 p - 11 in
    let up : Shift p z = shift p (omega arith) c.requires.1 in
    record { ranges = (up.below, smaller-below p c.args.q z c.requires.0 up, omega arith) }

pub root_below-r-requires : goal.root_below-r-requires
root_below-r-requires c = (shift c.args.p (omega arith) c.requires.1).from

pub returns : goal.returns
returns c =
    let p = c.args.p in
    let z = count_leading_zeros 64 p - 11 in
    rw c.rounded.ensures (subnormal-bits p c.args.q z c.requires.0 (shift p (omega arith) c.requires.1) c.requires.1 c.root_below-r.ensures)
