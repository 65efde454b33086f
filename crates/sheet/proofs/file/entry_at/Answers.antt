-- Each field fits its type, since k bytes stand for a number below 256 ^ k. Assumes nothing.
use native.Mathlib.Omega.{arith}
use Prim.Native.Nat.{◌+◌}
use Rattle.sheet.proofs.Sizes.{bytes_below}
use Rattle.sheet.specs.Contents.{entry_of, entry_place}
use Rattle.sheet.proofs.file.entry_at.Goals as goal

pub overflow_cast-result : goal.overflow_cast-result
overflow_cast-result c = omega (arith, bytes_below c.args.file.now (λ i. (c.type_inv.file i).fits) 4 (entry_place c.args.i))

pub overflow_cast-result-2 : goal.overflow_cast-result-2
overflow_cast-result-2 c = omega (arith, bytes_below c.args.file.now (λ i. (c.type_inv.file i).fits) 2 (entry_place c.args.i + 4))

pub overflow_cast-result-3 : goal.overflow_cast-result-3
overflow_cast-result-3 c = omega (arith, bytes_below c.args.file.now (λ i. (c.type_inv.file i).fits) 2 (entry_place c.args.i + 6))

pub returns : goal.returns
unfolding entry_of
returns c = rw (← c.little_endian.ensures, ← c.little_endian-2.ensures, ← c.little_endian-3.ensures)
