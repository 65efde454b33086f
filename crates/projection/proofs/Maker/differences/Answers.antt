-- Where the ways of the first test meet, the row before has been dealt with; the second test deals with the row after. Assumes nothing.
use native.Mathlib.Omega.{arith}
use mathlib.Core.Path.{◌≡◌, ap, sym, ◌∙◌}
use Prim.Native.Nat.{◌+◌}
use lib.ListN.{length}
use Rattle.floats.proofs.TableLaws.{length-table}
use Rattle.projection.proofs.ProjectionLaws.{row_fits, row_copied, row_moved, behind, behind-first, behind-later, ahead-last, ahead-earlier}
use borrow.Author.Rules.{rules}
use Rattle.projection.proofs.Maker.differences.Goals as goal
use Rattle.projection.proofs.Maker.differences.Goals.{then-t-gt0, else-t-gt0}

pub set_difference-requires : goal.set_difference-requires
set_difference-requires c = let b = ap length c.requires.2 ∙ length-table _ _ in let h = ap length c.requires.3 ∙ length-table _ _ in (omega arith, omega arith)

pub copy-requires : goal.copy-requires
copy-requires c = let b = ap length c.requires.2 ∙ length-table _ _ in let h = ap length c.requires.3 ∙ length-table _ _ in omega arith

pub copy_row-requires : goal.copy_row-requires
copy_row-requires c = row_fits c.args.self.now.m.now c.args.here.now c.args.self.now.n _ c.args.self.now.square.0 c.args.self.now.square.1 c.if-t-self.true (ap length c.requires.3 ∙ length-table _ _)

pub add_difference-requires : goal.add_difference-requires
add_difference-requires c =
    let wide : length c.if-t-gt0.w ≡ c.args.self.now.n = elim c.if-t-gt0.branch [
      | then-t-gt0 w ↦ ap length (w.w-is ∙ w.set_difference.ensures) ∙ length-table _ _ ∙ c.requires.0
      | else-t-gt0 w ↦ ap length (w.w-is ∙ w.fill.ensures) ∙ length-table _ _ ∙ c.requires.0
    ] in
    let b = ap length c.requires.2 ∙ length-table _ _ in
    let h = ap length c.requires.3 ∙ length-table _ _ in
    let x = ap length c.copy.ensures ∙ length-table _ _ in
    let y = ap length c.copy_row.ensures ∙ length-table _ _ in
    (omega arith, omega arith)

pub shape_of-w-then-t-self : goal.shape_of-w-then-t-self
shape_of-w-then-t-self c =
    let wide : length c.if-t-gt0.w ≡ c.args.self.now.n = elim c.if-t-gt0.branch [
      | then-t-gt0 w ↦ ap length (w.w-is ∙ w.set_difference.ensures) ∙ length-table _ _ ∙ c.requires.0
      | else-t-gt0 w ↦ ap length (w.w-is ∙ w.fill.ensures) ∙ length-table _ _ ∙ c.requires.0
    ] in
    search rules

pub returns-then-t-self : goal.returns-then-t-self
returns-then-t-self c =
    let met : c.if-t-gt0.w ≡ behind c.args.self.now.n c.args.t c.args.self.now.m.now = elim c.if-t-gt0.branch [
      | then-t-gt0 w ↦ w.w-is ∙ w.set_difference.ensures ∙ rw c.requires.0 (behind-later _ _ _ _ _ w.if-t-gt0.true c.requires.2 c.requires.3)
      | else-t-gt0 w ↦ w.w-is ∙ w.fill.ensures ∙ rw c.requires.0 (behind-first _ _ _ w.if-t-gt0.false)
    ] in
    let wide : length c.if-t-gt0.w ≡ c.args.self.now.n = ap length met ∙ length-table _ _ in
    let args = c.args in
    let pre = c.requires in
    let before = c.copy.ensures ∙ row_moved args.self.now.m.now args.here.now args.self.now.n args.t _ (ap length pre.2 ∙ length-table _ _) pre.3 in
    let here = c.copy_row.ensures ∙ row_copied args.self.now.m.now args.self.now.n (args.t + 1) _ (ap length pre.3 ∙ length-table _ _) in
    let sums = ahead-earlier _ _ args.self.now.m.now _ _ _ c.if-t-self.true met before here in
    record { w_after = c.add_difference.ensures ∙ rw wide sums; before_after = (λ h. (before, here)) }

pub shape_of-w-else-t-self : goal.shape_of-w-else-t-self
shape_of-w-else-t-self c =
    let wide : length c.if-t-gt0.w ≡ c.args.self.now.n = elim c.if-t-gt0.branch [
      | then-t-gt0 w ↦ ap length (w.w-is ∙ w.set_difference.ensures) ∙ length-table _ _ ∙ c.requires.0
      | else-t-gt0 w ↦ ap length (w.w-is ∙ w.fill.ensures) ∙ length-table _ _ ∙ c.requires.0
    ] in
    wide ∙ sym c.requires.0

pub returns-else-t-self : goal.returns-else-t-self
returns-else-t-self c =
    let met : c.if-t-gt0.w ≡ behind c.args.self.now.n c.args.t c.args.self.now.m.now = elim c.if-t-gt0.branch [
      | then-t-gt0 w ↦ w.w-is ∙ w.set_difference.ensures ∙ rw c.requires.0 (behind-later _ _ _ _ _ w.if-t-gt0.true c.requires.2 c.requires.3)
      | else-t-gt0 w ↦ w.w-is ∙ w.fill.ensures ∙ rw c.requires.0 (behind-first _ _ _ w.if-t-gt0.false)
    ] in
    record { w_after = met ∙ ahead-last _ _ _ c.if-t-self.false; before_after = (λ h. absurd (omega arith)) }
