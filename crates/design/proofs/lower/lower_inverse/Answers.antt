use Rattle.design.proofs.InverseLaws.{rows_none, rows_more}
use native.Mathlib.Omega.{arith}
use mathlib.Core.Path.{◌≡◌, sym}
use Rattle.design.proofs.lower.lower_inverse.Goals as goal

pub loop-i-init : goal.loop-i-init
loop-i-init c = (omega arith, sym (rows_none _))

pub loop-i-preserved : goal.loop-i-preserved
loop-i-preserved c = (omega arith, rw (c.lower_row.ensures, c.loop-i.invariant.1) (sym (rows_more c.args.l.now c.loop-i.i)))

pub returns : goal.returns
returns c = let h : c.loop-i.i ≡ c.args.k = omega arith in rw (c.loop-i.invariant.1, h)
