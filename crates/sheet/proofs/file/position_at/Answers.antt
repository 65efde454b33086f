-- Where the position begins past the file's end it is 0, and where the end cuts it short it is the number of its bytes before the end. Assumes nothing.
use native.Mathlib.Omega.{arith}
use mathlib.Core.Path.{sym, ◌∙◌}
use Rattle.sheet.proofs.PastEnd.{past_end, cut_short}
use Rattle.sheet.proofs.file.position_at.Goals as goal

pub returns-then-start-file : goal.returns-then-start-file
returns-then-start-file c = sym (past_end c.args.file.now 8 _ (omega arith))

pub returns-then-t-file : goal.returns-then-t-file
returns-then-t-file c = sym (past_end c.args.file.now 8 _ (omega arith))

pub returns-then-left-lt8 : goal.returns-then-left-lt8
returns-then-left-lt8 c = rw (← c.body_start-start.ensures) (c.little_endian.ensures ∙ sym (cut_short c.args.file.now _ 8 _ (omega arith) (omega arith)))
