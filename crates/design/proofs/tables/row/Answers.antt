use Rattle.std.proofs.Common.{◌≡◌, arith}
use Rattle.floats.specs.Words.{plus_zero}
use Rattle.floats.proofs.RowLaws.{filled_none, filled_more}
use Rattle.design.specs.Matrix.{zero_row, row}
use Rattle.design.proofs.MadeLaws.{front-filled}
use Rattle.design.proofs.tables.row.Goals as goal

pub loop-j-init : goal.loop-j-init
loop-j-init g c = (omega arith, λ f h. filled_none f zero_row)

pub loop-j-preserved : goal.loop-j-preserved
loop-j-preserved g c =
    let w = c.loop-j in
    (omega arith, λ f h. rw (w.invariant.1 f h, h w.j c.number.result c.loop-j-test.true c.number.ensures) (filled_more f zero_row w.j plus_zero (omega arith)))

pub returns : goal.returns
unfolding row
returns g c = λ f h. let e : c.loop-j.j ≡ c.args.k = omega arith in rw (c.loop-j.invariant.1 f h, e) (front-filled f plus_zero c.args.k c.requires.0)
