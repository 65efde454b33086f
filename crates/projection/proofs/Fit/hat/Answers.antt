use Rattle.floats.proofs.TableLaws.{length-table}
use Rattle.floats.proofs.HalfLaws.{triangle-up}
use Rattle.projection.proofs.ProjectionLaws.{reach-rows, hat-none, hat-row, hat-all}
use Prim.Native.Nat.{◌+◌}
use native.Mathlib.Omega.{arith}
use native.Mathlib.Nat.{le_antisymm}
use mathlib.Core.Path.{ap, ◌∙◌}
use lib.ListN.{length}
use borrow.Author.Rules.{rules}
use Rattle.projection.proofs.Fit.hat.Goals as goal

pub loop-i-init : goal.loop-i-init
loop-i-init c = let args = c.args in (omega arith, search rules, search rules, c.fill.ensures ∙ rw c.requires.0 (hat-none args.self.now.sheet.run.now args.self.now.inv.now args.self.now.sheet.size.rows args.self.now.sheet.size.columns))

pub add_to_row-requires : goal.add_to_row-requires
add_to_row-requires c = let args = c.args in
    let h = c.loop-i-test.true in (
      omega arith,
      omega (arith, triangle-up {i = c.loop-i.i + 1} {r = args.self.now.sheet.size.rows} (omega arith)),
      rw (ap length c.weights.ensures ∙ length-table _ args.self.now.sheet.size.columns) (reach-rows args.self.now.sheet.size.rows args.self.now.sheet.size.rows c.loop-i.i args.self.now.sheet.size.columns (length args.self.now.sheet.run.now) h (omega arith) (search rules)),
    )

pub loop-i-preserved : goal.loop-i-preserved
loop-i-preserved c = let args = c.args in
    (omega arith, search rules, search rules, c.add_to_row.ensures ∙ hat-row args.self.now.sheet.run.now args.self.now.inv.now args.self.now.sheet.size.rows args.self.now.sheet.size.columns c.loop-i.i c.loop-i.m c.weights.new.u c.loop-i-test.true c.loop-i.invariant.3 c.weights.ensures)

pub returns : goal.returns
returns c = let args = c.args in c.loop-i.invariant.3 ∙ rw (le_antisymm c.loop-i.invariant.0 c.loop-i-test.false) (hat-all args.self.now.sheet.run.now args.self.now.inv.now args.self.now.sheet.size.rows args.self.now.sheet.size.columns)
