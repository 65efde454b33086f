use Rattle.floats.proofs.signs.copysign.Goals as goal

pub returns-then-is_minus : goal.returns-then-is_minus
returns-then-is_minus c = rw (← c.is_minus.ensures, c.if-is_minus.true, ← c.abs.ensures)

pub returns-else-is_minus : goal.returns-else-is_minus
returns-else-is_minus c = rw (← c.is_minus.ensures, c.if-is_minus.false, ← c.abs-else-is_minus.ensures)
