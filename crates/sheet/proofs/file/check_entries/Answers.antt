use native.Mathlib.Nat.{sub-zero}
use Rattle.floats.proofs.ListLaws.{sub-step, sub-none}
use Rattle.floats.proofs.TableLaws.{length-table}
use Rattle.sheet.specs.Contents.{entry_of}
use Rattle.std.specs.Prelude.{Ok, Err}
use Rattle.std.proofs.Common.{rules}
use Rattle.sheet.specs.Reading.{due_at, check_of}
use Rattle.sheet.proofs.Order.{met-decides, sound-passes, left-over-decides, end-accepts}
use native.Mathlib.Omega.{arith}
use native.Mathlib.Numerals.{add-one}
use native.Mathlib.Nat.{le_antisymm}
use mathlib.Core.Path.{◌≡◌, ap, sym, ◌∙◌}
use Rattle.sheet.proofs.file.check_entries.Goals as goal

pub loop-i-init : goal.loop-i-init
unfolding due_at
loop-i-init c = (omega arith, rw c.requires.0, rw sub-zero)

pub returns-in_err-entry_fault : goal.returns-in_err-entry_fault
returns-in_err-entry_fault c = let h : c.from_residual.result ≡ Err c.in_err-entry_fault.field-0.0 = search rules in
    h ∙ ap check_of (sym (met-decides _ _ _ (sym c.entry_fault.ensures ∙ c.in_err-entry_fault.was)) ∙ rw (sub-step c.loop-i-test.true) at c.loop-i.invariant.2)

pub loop-i-preserved : goal.loop-i-preserved
unfolding due_at
loop-i-preserved c = (omega arith, rw (add-one c.loop-i.i, ← c.entry_at-e.ensures) c.body_end-due.ensures, sym (sound-passes _ _ _ (sym c.in_ok-entry_fault.ensures)) ∙ rw (sub-step c.loop-i-test.true) at c.loop-i.invariant.2)

pub returns-then-due-file : goal.returns-then-due-file
returns-then-due-file c = let h : c.loop-i.i ≡ c.args.count = le_antisymm c.loop-i.invariant.0 c.loop-i-test.false in
    ap check_of (sym (left-over-decides _ _ (λ q. c.if-due-file.true (c.loop-i.invariant.1 ∙ rw (h, c.requires.0) q))) ∙ rw (sub-none c.loop-i-test.false) at c.loop-i.invariant.2)

pub returns : goal.returns
returns c = let h : c.loop-i.i ≡ c.args.count = le_antisymm c.loop-i.invariant.0 c.loop-i-test.false in
    ap Ok (c.requires.0 ∙ sym (length-table (entry_of c.args.file.now) _)) ∙ ap check_of (sym (end-accepts _ _ (rw (← c.requires.0, ← h) (sym c.loop-i.invariant.1 ∙ c.if-due-file.false))) ∙ rw (sub-none c.loop-i-test.false) at c.loop-i.invariant.2)
