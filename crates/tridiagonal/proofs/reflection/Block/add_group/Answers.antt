-- What stands from the group's first row on holds the rows, each a number longer than the row before. Assumes nothing.
use native.Mathlib.Omega.{arith}
use lib.ListN.{length-take}
use Rattle.tridiagonal.proofs.ImageLaws.{group-in, terms-reach, group-terms}
use borrow.Author.Rules.{rules}
use Rattle.tridiagonal.proofs.reflection.Block.add_group.Goals as goal

pub slice_bounds-add_rows-end-2 : goal.slice_bounds-add_rows-end-2
slice_bounds-add_rows-end-2 c = simp length-take (omega arith)

pub offset_bounds-self-start : goal.offset_bounds-self-start
offset_bounds-self-start c = omega (arith, group-in c.args.self.now.n c.args.self.now.c c.args.r c.args.self.now.shape.0.0 c.requires.1 c.requires.3 c.place-start.ensures)

-- the group's first row begins within the run
pub slice_bounds-add_rows-count : goal.slice_bounds-add_rows-count
slice_bounds-add_rows-count c = let args = c.args in
    let s = args.self.now in
    let pre = c.requires in
    omega (arith, group-in s.n s.c args.r s.shape.0.0 pre.1 pre.3 c.place-start.ensures)

pub slice_bounds-add_rows-start : goal.slice_bounds-add_rows-start
slice_bounds-add_rows-start c = omega (arith, group-in c.args.self.now.n c.args.self.now.c c.args.r c.args.self.now.shape.0.0 c.requires.1 c.requires.3 c.place-start.ensures)

pub add_rows-requires : goal.add_rows-requires
add_rows-requires c = let args = c.args in
    let s = args.self.now in
    let pre = c.requires in
    (search rules, search rules, terms-reach s.n s.c s.a.now s.v.now args.r args.next _ s.shape.0.0 pre.1 pre.3 c.place-start.ensures args.p.now pre.0 s.shape.2)

pub returns : goal.returns
returns c = let args = c.args in
    let s = args.self.now in
    let pre = c.requires in
    rw (c.add_rows.ensures, group-terms s.n s.c s.a.now s.v.now args.r args.next _ s.shape.0.0 pre.1 pre.3 c.place-start.ensures args.p.now pre.0 s.shape.2)
