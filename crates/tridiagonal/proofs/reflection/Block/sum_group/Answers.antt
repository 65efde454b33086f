-- What stands from the group's first row on holds the rows, each a number longer than the row before; r numbers further it holds the corner. Assumes nothing.
use native.Mathlib.Omega.{arith}
use lib.ListN.{length-take}
use Rattle.tridiagonal.proofs.ImageLaws.{group-in, sums-reach, corner-reach, group-sums}
use borrow.Author.Rules.{rules}
use Rattle.tridiagonal.proofs.reflection.Block.sum_group.Goals as goal

-- the corner begins within the run
pub overflow_add-corner : goal.overflow_add-corner
overflow_add-corner c = let args = c.args in
    let s = args.self.now in
    let pre = c.requires in
    omega (arith, group-in s.n s.c args.r s.shape.0.0 pre.1 pre.3 c.place-start.ensures)

pub offset_bounds-self-start : goal.offset_bounds-self-start
offset_bounds-self-start c = omega (arith, group-in c.args.self.now.n c.args.self.now.c c.args.r c.args.self.now.shape.0.0 c.requires.1 c.requires.3 c.place-start.ensures)

pub slice_bounds-row_dots-count-2 : goal.slice_bounds-row_dots-count-2
slice_bounds-row_dots-count-2 c = let args = c.args in
    let s = args.self.now in
    let pre = c.requires in
    omega (arith, group-in s.n s.c args.r s.shape.0.0 pre.1 pre.3 c.place-start.ensures)

pub slice_bounds-row_dots-start-2 : goal.slice_bounds-row_dots-start-2
slice_bounds-row_dots-start-2 c = omega (arith, group-in c.args.self.now.n c.args.self.now.c c.args.r c.args.self.now.shape.0.0 c.requires.1 c.requires.3 c.place-start.ensures)

pub slice_bounds-row_dots-end-3 : goal.slice_bounds-row_dots-end-3
slice_bounds-row_dots-end-3 c = simp length-take (omega arith)

pub row_dots-requires : goal.row_dots-requires
row_dots-requires c = let args = c.args in
    let s = args.self.now in
    let pre = c.requires in
    (search rules, search rules, sums-reach s.n s.c s.a.now s.v.now args.r args.next _ s.shape.0.0 pre.1 pre.3 c.place-start.ensures args.p.now pre.0 s.shape.2)

pub offset_bounds-self-corner : goal.offset_bounds-self-corner
offset_bounds-self-corner c = omega (arith, group-in c.args.self.now.n c.args.self.now.c c.args.r c.args.self.now.shape.0.0 c.requires.1 c.requires.3 c.place-start.ensures)

pub slice_bounds-add_corner-count-2 : goal.slice_bounds-add_corner-count-2
slice_bounds-add_corner-count-2 c = let args = c.args in
    let s = args.self.now in
    let pre = c.requires in
    omega (arith, group-in s.n s.c args.r s.shape.0.0 pre.1 pre.3 c.place-start.ensures)

pub slice_bounds-add_corner-start-2 : goal.slice_bounds-add_corner-start-2
slice_bounds-add_corner-start-2 c = omega (arith, group-in c.args.self.now.n c.args.self.now.c c.args.r c.args.self.now.shape.0.0 c.requires.1 c.requires.3 c.place-start.ensures)

pub add_corner-requires : goal.add_corner-requires
add_corner-requires c = let args = c.args in
    let s = args.self.now in
    let pre = c.requires in
    (search rules, search rules, search rules, corner-reach s.n s.c s.a.now s.v.now args.r args.next _ s.shape.0.0 pre.1 pre.3 c.place-start.ensures args.p.now pre.0 s.shape.2 _ c.row_dots.ensures)

pub returns : goal.returns
returns c = let args = c.args in
    let s = args.self.now in
    let pre = c.requires in
    rw c.add_corner.ensures (group-sums s.n s.c s.a.now s.v.now args.r args.next _ s.shape.0.0 pre.1 pre.3 c.place-start.ensures args.p.now pre.0 s.shape.2 _ c.row_dots.ensures)
