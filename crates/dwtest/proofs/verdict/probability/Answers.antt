use Rattle.imhof.proofs.BeyondLaws.{beyond-stays}
use Rattle.dwtest.proofs.verdict.probability.Goals as goal

pub returns-clause-parts_unchanged : goal.returns-clause-parts_unchanged
returns-clause-parts_unchanged c = rw c.prob_below_zero.ensures.parts_after (beyond-stays _ _ _)
