-- Each call's result is put in; then the products of columns of the room are those of A X, which it holds. Assumes nothing.
use Rattle.design.specs.Law.{law_from}
use Rattle.design.proofs.CrossLaws.{cross-is, squares-are}
use Rattle.design.proofs.traces.law_with.Goals as goal

pub returns : goal.returns
unfolding law_from
returns g c = let a = c.args in
    rw (c.law_by.ensures, c.trace_of_product-2.ensures, c.trace_of_product.ensures, c.trace.ensures, c.cross-c.ensures, c.product-b.ensures, c.cross.ensures) (rw (cross-is a.sheet.run.now a.sheet.size.rows a.sheet.size.columns c.difference_columns.new.differences c.difference_columns.ensures.by_index, squares-are a.sheet.run.now a.sheet.size.rows a.sheet.size.columns c.difference_columns.new.differences c.difference_columns.ensures.by_index))
