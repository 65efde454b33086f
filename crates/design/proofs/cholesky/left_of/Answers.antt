use Rattle.design.proofs.FactorLaws.{left-more}
use Rattle.floats.specs.Turns.{turns}
use Rattle.floats.proofs.ListLaws.{row_in}
use Rattle.design.specs.Factor.{left_to}
use native.Mathlib.Omega.{arith}
use mathlib.Core.Path.{◌≡◌, refl, sym}
use Rattle.design.proofs.cholesky.left_of.Goals as goal

pub loop-j-init : goal.loop-j-init
unfolding turns left_to
loop-j-init c = (omega arith, refl)

pub column_products-requires : goal.column_products-requires
column_products-requires c = omega (arith, row_in c.args.n c.loop-j-test.true)

pub loop-j-preserved : goal.loop-j-preserved
loop-j-preserved c = let a = c.args in
    let w = c.loop-j in
    (omega arith, rw (c.column_products.ensures, c.products.ensures, w.invariant.1) (sym (left-more a.columns.now a.n a.l.now a.i w.j)))

pub returns : goal.returns
returns c = let h : c.loop-j.j ≡ c.args.i = omega arith in rw (c.loop-j.invariant.1, h)
