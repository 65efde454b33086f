use Rattle.std.proofs.Common.{◌∙◌, sym}
use Rattle.floats.proofs.SignLaws.{differs}
use Rattle.elementary.proofs.tails.tail_beyond.Goals as goal

pub returns-then-is_nan : goal.returns-then-is_nan
returns-then-is_nan c = rw (differs c.args.z ∙ sym c.is_nan.ensures.value ∙ c.if-is_nan.true)

pub returns-then-z : goal.returns-then-z
returns-then-z c = rw (differs c.args.z ∙ sym c.is_nan.ensures.value ∙ c.if-is_nan.false, c.if-z.true, c.half_tail.ensures)

pub returns : goal.returns
returns c = rw (differs c.args.z ∙ sym c.is_nan.ensures.value ∙ c.if-is_nan.false, c.if-z.false, c.half_tail-2.ensures)
