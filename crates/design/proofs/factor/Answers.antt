use Rattle.floats.specs.Search.{first_where}
use Rattle.floats.proofs.ListLaws.{row_in}
use Rattle.floats.proofs.FirstLaws.{first-not}
use Rattle.design.specs.Factor.{fails_at}
use Rattle.design.proofs.FactorLaws.{factor-none, factor-more, fails-first, hold-all}
use native.Mathlib.Omega.{arith}
use mathlib.Core.Path.{◌≡◌, refl, sym}
use Rattle.design.proofs.factor.Goals as goal

pub loop-i-init : goal.loop-i-init
unfolding first_where
loop-i-init c = (omega arith, sym (factor-none _ _), refl)

pub left_of-row-requires : goal.left_of-row-requires
left_of-row-requires c = omega (arith, row_in c.args.sheet.size.rows c.loop-i-test.true)

pub column_products-square-requires : goal.column_products-square-requires
column_products-square-requires c = omega (arith, row_in c.args.sheet.size.rows c.loop-i-test.true)

pub returns-then-pivot-max : goal.returns-then-pivot-max
unfolding fails_at
returns-then-pivot-max c = let a = c.args in
    let w = c.loop-i in
    let p = fails-first a.sheet.run.now a.sheet.size.rows {k = a.sheet.size.columns} {i = w.i} c.loop-i-test.true w.invariant.2 (rw (c.max.ensures, c.products.ensures, c.column_products-square.ensures, c.left_of-row.ensures, w.invariant.1) at c.if-pivot-max.true) in
    record { value = sym p; l_after = rw p w.invariant.1 }

pub loop-i-preserved : goal.loop-i-preserved
unfolding fails_at
loop-i-preserved c = let a = c.args in
    let w = c.loop-i in
    (omega arith, rw (c.sqrt.ensures, c.products.ensures, c.column_products-square.ensures, c.left_of-row.ensures, w.invariant.1) (sym (factor-more a.sheet.run.now a.sheet.size.rows w.i)), first-not _ _ w.invariant.2 (rw (c.max.ensures, c.products.ensures, c.column_products-square.ensures, c.left_of-row.ensures, w.invariant.1) at c.if-pivot-max.false))

pub returns : goal.returns
returns c = let a = c.args in
    let w = c.loop-i in
    let h : w.i ≡ a.sheet.size.columns = omega arith in let p = hold-all a.sheet.run.now a.sheet.size.rows a.sheet.size.columns (rw h at w.invariant.2) in record { value = sym p; l_after = rw (p, ← h) w.invariant.1 }
