-- The digits that `width` counts, or sixteen, and one byte. Assumes nothing.
use native.Mathlib.Omega.{arith}
use Rattle.lines.proofs.DigitLaws.{length-word}
use Rattle.lines.proofs.words.put_word.Goals as goal

pub returns-in-Decimal : goal.returns-in-Decimal
returns-in-Decimal c = rw (c.in-Decimal.is, ← c.width.ensures.0) (omega (arith, length-word 10 c.width.result c.args.n c.args.after), c.put_number.ensures.1)

pub returns-in-Hex : goal.returns-in-Hex
returns-in-Hex c = rw c.in-Hex.is (omega (arith, length-word 16 16 c.args.n c.args.after), c.put_number-in-Hex.ensures.1)
