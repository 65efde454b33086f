-- The part that is lent is row i up to the diagonal. Assumes nothing.
use Prim.Native.Nat.{◌+◌, ◌*◌, ◌≤◌}
use native.Mathlib.Omega.{arith}
use lib.ListN.{length}
use Rattle.floats.specs.Words.{◌⊗◌, ◌‼◌}
use Rattle.rows.specs.Terms.{sum_from}
use Rattle.projection.proofs.TriangleLaws.{row_within, row-wide, row-lent}
use Rattle.projection.proofs.matrix.add_to_row.Goals as goal

within : (c : goal.After-place-start) → let args = c.args in c.place-start.result + (args.i + 1) ≤ length args.a.now
within c = let args = c.args in row_within args.i c.place-start.result args.a.now c.requires.1 c.place-start.ensures

pub overflow_add-end-2 : goal.overflow_add-end-2
overflow_add-end-2 c = omega (arith, within c)

pub offset_bounds-a-start : goal.offset_bounds-a-start
offset_bounds-a-start c = omega (arith, within c)

pub slice_bounds-add_terms-end : goal.slice_bounds-add_terms-end
slice_bounds-add_terms-end c = omega (arith, within c)

pub add_terms-requires : goal.add_terms-requires
add_terms-requires c = let args = c.args in rw (row-wide args.i c.place-start.result args.a.now c.requires.1 c.place-start.ensures) c.requires.2

pub returns : goal.returns
returns c = let args = c.args in
    rw c.add_terms.ensures (row-lent args.i _ args.a.now c.requires.1 c.place-start.ensures (λ j y. sum_from y (length args.w.now) (λ s. args.xs.now ‼ (s * args.stride + j) ⊗ args.w.now ‼ s)))
