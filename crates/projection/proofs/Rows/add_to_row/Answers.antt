-- What is copied is row i of M from column t on, and matrix::add_to_row does the rest. Assumes nothing.
use native.Mathlib.Omega.{arith}
use mathlib.Core.Path.{ap, sym, ◌∙◌}
use lib.ListN.{length}
use Rattle.floats.proofs.HalfLaws.{triangle-more, triangle-apart, triangle-up}
use Rattle.floats.proofs.TableLaws.{length-table}
use Rattle.projection.proofs.ProjectionLaws.{reach-rows}
use Rattle.projection.proofs.RoomLaws.{array-lent, array-filled, array-holds, block-turn}
use Rattle.projection.proofs.Rows.add_to_row.Goals as goal

pub slice_bounds-copy_row-end : goal.slice_bounds-copy_row-end
slice_bounds-copy_row-end c = sym (array-lent _ _ c.args.self.now.within.3)

pub copy_row-requires : goal.copy_row-requires
copy_row-requires c = let s = c.args.self.now in
    let a = array-lent 16 s.block.count s.within.3 in
    let m = s.maker.square in (
      omega (arith, m.1, c.requires.1),
      omega (arith, a, m.1, s.within.2),
      omega (arith, m.0, triangle-apart c.requires.1, triangle-more c.args.i),
      rw a (omega (arith, m.0, triangle-up s.within.2)),
    )

pub slice_bounds-u-end-2 : goal.slice_bounds-u-end-2
slice_bounds-u-end-2 c = let s = c.args.self.now in array-holds 16 s.block.count _ c.copy_row.new.row s.within.3 c.copy_row.ensures

pub slice_bounds-add_to_row-end : goal.slice_bounds-add_to_row-end
slice_bounds-add_to_row-end c = let s = c.args.self.now in sym (ap length (array-filled 16 s.block.count _ c.copy_row.new.row s.within.3 c.copy_row.ensures) ∙ length-table _ s.block.count)

pub add_to_row-requires : goal.add_to_row-requires
add_to_row-requires c = let s = c.args.self.now in (
  omega (arith, c.requires.0.1, c.requires.1),
  omega (arith, c.requires.0.0, triangle-apart c.requires.1, triangle-more c.args.i),
  rw (ap length (array-filled 16 s.block.count _ c.copy_row.new.row s.within.3 c.copy_row.ensures) ∙ length-table _ s.block.count) (reach-rows s.maker.n s.stride c.args.i s.block.count (length s.w.now) c.requires.1 s.within.0 s.within.1),
)

pub returns : goal.returns
returns c = let s = c.args.self.now in c.add_to_row.ensures ∙ block-turn s.maker.n s.block.first s.block.count c.args.mam.now s.maker.m.now s.stride c.args.i s.w.now _ c.requires.0.0 c.requires.1 (array-filled 16 s.block.count _ c.copy_row.new.row s.within.3 c.copy_row.ensures)
