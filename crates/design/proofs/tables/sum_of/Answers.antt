use Rattle.std.proofs.Common.{◌≡◌, refl, arith}
use lib.Ieee.{neg, of_bits}
use native.Mathlib.Numerals.{add-one}
use Rattle.floats.specs.Sums.{sum_of}
use Rattle.design.proofs.tables.sum_of.Goals as goal

pub loop-t-init : goal.loop-t-init
unfolding sum_of neg of_bits
loop-t-init g c = (omega arith, λ f h. refl)

pub loop-t-preserved : goal.loop-t-preserved
unfolding sum_of
loop-t-preserved g c = (omega arith, λ f h. rw (add-one c.loop-t.t, c.loop-t.invariant.1 f h, h c.loop-t.t c.term-s.result c.loop-t-test.true c.term-s.ensures))

pub returns : goal.returns
returns g c = λ f h. let e : c.loop-t.t ≡ c.args.n = omega arith in rw (c.loop-t.invariant.1 f h, e)
