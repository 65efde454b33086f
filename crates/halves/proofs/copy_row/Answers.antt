-- The row's own numbers end within the triangle, and the rest begins below the diagonal. Assumes nothing.
use Prim.Native.Nat.{◌+◌, ◌≤◌}
use native.Mathlib.Omega.{arith}
use lib.ListN.{length, length-take, length-drop}
use Rattle.halves.proofs.CopyLaws.{own_in, rest_end, stretch-copied}
use borrow.Author.Rules.{rules}
use Rattle.halves.proofs.copy_row.Goals as goal

pub overflow_add-end : goal.overflow_add-end
overflow_add-end c = let h : c.place-start.result + c.own_numbers-own.result ≤ length c.args.a.now = own_in _ _ _ c.own_numbers-own.ensures c.place-start.ensures c.requires.2 c.requires.3 in search rules

pub slice_bounds-copy-end-2 : goal.slice_bounds-copy-end-2
slice_bounds-copy-end-2 c = simp length-take (omega arith)

pub offset_bounds-a-start : goal.offset_bounds-a-start
offset_bounds-a-start c = let h : c.place-start.result + c.own_numbers-own.result ≤ length c.args.a.now = own_in _ _ _ c.own_numbers-own.ensures c.place-start.ensures c.requires.2 c.requires.3 in omega arith

pub slice_bounds-copy-end-3 : goal.slice_bounds-copy-end-3
slice_bounds-copy-end-3 c = own_in _ _ _ c.own_numbers-own.ensures c.place-start.ensures c.requires.2 c.requires.3

pub copy-requires : goal.copy-requires
copy-requires c = let h : c.place-start.result + c.own_numbers-own.result ≤ length c.args.a.now = own_in _ _ _ c.own_numbers-own.ensures c.place-start.ensures c.requires.2 c.requires.3 in simp (length-take, length-drop) (omega arith)

pub copy_column-requires : goal.copy_column-requires
copy_column-requires c = let e = rest_end _ _ _ _ c.own_numbers-own.ensures c.place-start.ensures c.requires.2 c.requires.3 c.copy.ensures in (search rules, rw e c.requires.1, λ h. omega arith, rw e c.requires.3)

pub returns : goal.returns
returns c = stretch-copied _ _ _ _ c.own_numbers-own.ensures c.place-start.ensures c.requires.2 c.requires.3 c.copy.ensures c.copy_column.ensures
