use Rattle.std.proofs.Common.{◌<◌, length, sym, le_antisymm}
use Rattle.std.specs.Float.{nan}
use Rattle.floats.proofs.RowLaws.{filled_none, filled-here, filled_more}
use Rattle.rows.proofs.TermLaws.{from-none, fours-more}
use Rattle.rows.proofs.add_next.Goals as goal

pub loop-j-init : goal.loop-j-init
loop-j-init g c = filled_none _ _

pub loop-q-init : goal.loop-q-init
loop-q-init g c = sym (from-none _ _)

pub loop-q-preserved : goal.loop-q-preserved
loop-q-preserved g c =
    let a = c.args in
    fours-more _ a.xs.now a.w.now a.stride a.t c.loop-j.j c.loop-q.q c.four_terms-sum.ensures c.loop-q.invariant

pub loop-j-preserved : goal.loop-j-preserved
loop-j-preserved g c =
    let h : c.loop-j.j < length c.args.row.now = c.loop-j-test.true in
    rw (c.loop-q.invariant, le_antisymm c.loop-q.auto.q-end c.loop-q-test.false, c.loop-j.invariant, filled-here _ _ _ nan h) (filled_more _ _ _ nan h)
