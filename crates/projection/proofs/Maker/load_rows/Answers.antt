use Rattle.floats.proofs.ListLaws.{row_in}
use Rattle.floats.proofs.TableLaws.{length-table}
use Rattle.projection.proofs.ProjectionLaws.{row_fits, row_copied, loaded-none, loaded-more}
use Prim.Native.Nat.{◌+◌, ◌*◌, ◌≤◌, ◌<◌, ◌-◌}
use native.Mathlib.Omega.{arith}
use native.Mathlib.Nat.{le_antisymm}
use mathlib.Core.Path.{◌≡◌, refl, ap, ◌∙◌}
use lib.ListN.{length}
use borrow.Author.Rules.{rules}
use Rattle.projection.proofs.Maker.load_rows.Goals as goal

-- row s ends within w
row : (c : goal.In-loop-s) → let args = c.args in c.loop-s.s * args.stride + args.stride ≤ args.block.count * args.stride
row c = row_in _ c.loop-s-test.true

pub copy_row-requires : goal.copy_row-requires
copy_row-requires c = let args = c.args in let pre = c.requires in row_fits args.self.now.m.now args.before.now args.self.now.n _ args.self.now.square.0 args.self.now.square.1 (omega (arith, pre.2)) pre.4

pub copy_row-requires-2 : goal.copy_row-requires-2
copy_row-requires-2 c = let args = c.args in let pre = c.requires in row_fits args.self.now.m.now args.here.now args.self.now.n _ args.self.now.square.0 args.self.now.square.1 pre.2 pre.5

-- row 0 has none before it, and is taken for that
pub loop-s-init : goal.loop-s-init
loop-s-init c = let args = c.args in
    let pre = c.requires in
    let before = rw c.saturating_sub.ensures at (c.copy_row.ensures ∙ row_copied args.self.now.m.now args.self.now.n _ _ pre.4) in
    let here = c.copy_row-2.ensures ∙ row_copied args.self.now.m.now args.self.now.n args.block.first _ pre.5 in
    let z : args.block.first + 0 ≡ args.block.first = omega arith in
    (omega arith, refl, ap length before ∙ length-table _ _, ap length here ∙ length-table _ _, (λ h. rw z (before, here)), loaded-none args.stride args.self.now.n args.block.first args.self.now.m.now args.w.now)

pub overflow_mul-start : goal.overflow_mul-start
overflow_mul-start c = omega (arith, row c)

pub overflow_add-end : goal.overflow_add-end
overflow_add-end c = omega (arith, row c)

pub offset_bounds-w-start : goal.offset_bounds-w-start
offset_bounds-w-start c = omega (arith, row c)

pub slice_bounds-differences-end : goal.slice_bounds-differences-end
slice_bounds-differences-end c = omega (arith, row c)

pub differences-requires : goal.differences-requires
differences-requires c = let args = c.args in
    let pre = c.requires in
    let loop = c.loop-s in
    let b : args.block.first + loop.s < args.self.now.n = omega (arith, pre.3) in
    let h = row_in args.stride c.loop-s-test.true in
    let rows = loop.invariant.4 b in
    (search rules, b, rows.0, rows.1)

pub loop-s-preserved : goal.loop-s-preserved
loop-s-preserved c = let args = c.args in
    let loop = c.loop-s in
    let differences = c.differences in
    let h = row_in args.stride c.loop-s-test.true in
    let z : args.block.first + (loop.s + 1) ≡ args.block.first + loop.s + 1 = omega arith in
    let y : args.block.first + loop.s + 1 - 1 ≡ args.block.first + loop.s = omega arith in (
      omega arith,
      search rules,
      search rules,
      search rules,
      rw (z, y) differences.ensures.before_after,
      loaded-more args.stride args.self.now.n args.block.first args.self.now.m.now loop.s loop.w differences.new.w (search rules) (omega arith) loop.invariant.5 differences.ensures.w_after,
    )

pub returns : goal.returns
returns c = rw (le_antisymm c.loop-s.invariant.0 c.loop-s-test.false) at c.loop-s.invariant.5
