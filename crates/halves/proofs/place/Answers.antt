-- i (i + 1) is no more than for the last row. Assumes nothing.
use Prim.Native.Nat.{◌+◌}
use native.Mathlib.Nat.{mul-le-mul}
use native.Mathlib.Omega.{arith}
use mathlib.Core.Path.{refl}
use Rattle.floats.specs.Tables.{triangle}
use Rattle.floats.specs.Limits.{max_rows}
use borrow.Author.Rules.{rules}
use Rattle.halves.proofs.place.Goals as goal

pub overflow_mul-result : goal.overflow_mul-result
overflow_mul-result c = omega (arith, mul-le-mul {n₁ = c.args.i} {m₁ = c.args.i + 1} {n₂ = max_rows} {m₂ = max_rows + 1} (search rules) (search rules))

pub overflow_add-result-2 : goal.overflow_add-result-2
overflow_add-result-2 c = omega (arith, mul-le-mul {n₁ = c.args.i} {m₁ = c.args.i + 1} {n₂ = max_rows} {m₂ = max_rows + 1} (search rules) (search rules))

pub returns : goal.returns
unfolding triangle
returns c = refl
