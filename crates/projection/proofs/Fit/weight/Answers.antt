use Rattle.floats.specs.Sums.{sum_of}
use Rattle.floats.proofs.ListLaws.{row_in}
use Rattle.projection.specs.Projection.{weight}
use native.Mathlib.Omega.{arith}
use native.Mathlib.Numerals.{add-one}
use native.Mathlib.Nat.{le_antisymm}
use mathlib.Core.Path.{refl}
use Rattle.projection.proofs.Fit.weight.Goals as goal

pub loop-m-init : goal.loop-m-init
unfolding sum_of
loop-m-init c = (omega arith, refl)

pub overflow_mul-s : goal.overflow_mul-s
overflow_mul-s c = let h = row_in c.args.self.now.sheet.size.rows c.loop-m-test.true in omega arith

pub overflow_add-s : goal.overflow_add-s
overflow_add-s c = let h = row_in c.args.self.now.sheet.size.rows c.loop-m-test.true in omega arith

pub offset_bounds-self-m : goal.offset_bounds-self-m
offset_bounds-self-m c = let h = row_in c.args.self.now.sheet.size.rows c.loop-m-test.true in omega arith

pub bounds-self-m : goal.bounds-self-m
bounds-self-m c = let h = row_in c.args.self.now.sheet.size.rows c.loop-m-test.true in omega arith

pub loop-m-preserved : goal.loop-m-preserved
unfolding sum_of
loop-m-preserved c = (omega arith, rw (add-one c.loop-m.m, c.loop-m.invariant.1))

pub returns : goal.returns
unfolding weight
returns c = rw (c.loop-m.invariant.1, le_antisymm c.loop-m.invariant.0 c.loop-m-test.false)
