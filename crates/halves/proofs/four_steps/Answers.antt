use Prim.Native.Nat.{◌+◌}
use native.Mathlib.Omega.{arith}
use Rattle.halves.specs.RowStarts.{row_start}
use Rattle.rows.proofs.TermLaws.{four-of}
use Rattle.halves.proofs.four_steps.Goals as goal

pub returns : goal.returns
unfolding row_start
returns c = four-of c.args.x c.args.xs.now c.args.w.now (λ t. c.args.at + row_start c.args.stride t) _ _ _ _ c.args.s (omega arith) (omega arith) (omega arith) (omega arith)
