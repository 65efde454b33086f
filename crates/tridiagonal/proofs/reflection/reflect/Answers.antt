-- The three ways a reflection goes: two leave the matrix, and in the third block and column are stored one after the other. Assumes nothing.
use Rattle.floats.specs.Words.{plus_zero}
use Rattle.floats.proofs.HalfLaws.{triangle-up}
use Rattle.tridiagonal.proofs.ImageLaws.{column-of}
use Rattle.tridiagonal.proofs.UpdateLaws.{still, flat, turned, turn-of}
use borrow.Author.Rules.{rules}
use Rattle.tridiagonal.proofs.reflection.reflect.Goals as goal

pub copy_row-requires : goal.copy_row-requires
copy_row-requires c = let pre = c.requires in
    (search rules, search rules, rw pre.0.0 (triangle-up (search rules)), rw pre.0.0 (triangle-up (search rules)))

pub returns-then-norm : goal.returns-then-norm
returns-then-norm c = still _ _ _ _ _ _ plus_zero c.requires.0.0 (column-of _ _ _ _ c.requires.1 c.requires.2 c.copy_row.ensures) c.sum_squares.ensures c.sqrt-norm.ensures c.if-norm.true

pub returns-then-vv : goal.returns-then-vv
returns-then-vv c = flat _ _ _ _ _ _ _ c.requires.0.0 (column-of _ _ _ _ c.requires.1 c.requires.2 c.copy_row.ensures) c.sum_squares.ensures c.sqrt-norm.ensures c.if-norm.false c.signed-alpha.ensures _ c.sum_squares-vv.ensures c.if-vv.true

pub returns : goal.returns
returns c = let args = c.args in
    rw (c.lead_column.ensures, turn-of args.n args.c args.a.now _ _ _ c.signed-alpha.result c.update.ensures, c.correct.ensures, c.image.ensures)
    (turned _ _ _ _ _ _ _ c.requires.0.0 (column-of _ _ _ _ c.requires.1 c.requires.2 c.copy_row.ensures) c.sum_squares.ensures c.sqrt-norm.ensures c.if-norm.false c.signed-alpha.ensures _ c.sum_squares-vv.ensures c.if-vv.false)
