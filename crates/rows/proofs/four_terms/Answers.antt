use Prim.Native.Nat.{◌+◌, ◌*◌}
use native.Mathlib.Omega.{arith}
use mathlib.Core.Path.{refl}
use Rattle.rows.proofs.TermLaws.{four-of}
use Rattle.rows.proofs.four_terms.Goals as goal

pub returns : goal.returns
returns c = four-of c.args.x c.args.xs.now c.args.w.now (λ t. c.args.at + t * c.args.stride) _ _ _ _ c.args.s (omega arith) (omega arith) refl refl
