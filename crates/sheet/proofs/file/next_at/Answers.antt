-- The count is below 2^32, so that the entry's end does not wrap. Assumes nothing.
use native.Mathlib.Omega.{arith}
use Rattle.sheet.proofs.Sizes.{bytes_below}
use Rattle.sheet.proofs.file.next_at.Goals as goal

pub overflow_mul-i : goal.overflow_mul-i
overflow_mul-i c = omega (arith, c.little_endian-count.ensures, bytes_below c.args.file.now (λ i. (c.type_inv.file i).fits) 4 0)

pub overflow_add-i-2 : goal.overflow_add-i-2
overflow_add-i-2 c = omega (arith, c.little_endian-count.ensures, bytes_below c.args.file.now (λ i. (c.type_inv.file i).fits) 4 0)
