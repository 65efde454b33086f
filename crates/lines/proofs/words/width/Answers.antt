-- One more than the logarithm, and one where there is none. Assumes nothing.
use native.Mathlib.Omega.{arith}
use mathlib.Core.Path.{sym}
use Rattle.lines.proofs.DigitLaws.{width_one, width-log}
use Rattle.lines.proofs.words.width.Goals as goal

pub returns-in-Some : goal.returns-in-Some
returns-in-Some c = (omega (arith, width-log 19 c.in-Some.k {n = c.args.n} (omega (arith, c.in-Some.ensures.bound)) c.in-Some.ensures.power_le c.in-Some.ensures.next_power_gt), omega (arith, c.in-Some.ensures.bound))

pub returns-in-None : goal.returns-in-None
returns-in-None c = (sym (width_one 19 (omega (arith, c.in-None.ensures.none))), omega arith)
