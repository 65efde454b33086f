use Rattle.std.proofs.Common.{◌≡◌, arith}
use Rattle.floats.proofs.RowLaws.{filled_none, filled_more}
use Rattle.design.specs.Matrix.{row, zero_row, zero_matrix, matrix}
use Rattle.design.proofs.MadeLaws.{front-filled}
use Rattle.design.proofs.tables.matrix.Goals as goal

pub loop-i-init : goal.loop-i-init
loop-i-init g c = (omega arith, λ f h. filled_none (λ i. row c.args.k (f i)) zero_matrix)

pub loop-i-preserved : goal.loop-i-preserved
loop-i-preserved g c =
    let w = c.loop-i in
    (omega arith, λ f h. rw (w.invariant.1 f h, c.row.ensures (f w.i-counter) (λ j x l p. h w.i-counter j x c.loop-i-test.true l p)) (filled_more (λ i. row c.args.k (f i)) zero_matrix w.i-counter zero_row (omega arith)))

pub returns : goal.returns
unfolding matrix
returns g c = λ f h. let e : c.loop-i.i-counter ≡ c.args.k = omega arith in rw (c.loop-i.invariant.1 f h, e) (front-filled (λ i. row c.args.k (f i)) zero_row c.args.k c.requires.0)
