-- `contains` finds it where it is among the places. Assumes nothing.
use Rattle.lines.proofs.PutLaws.{among-any}
use Rattle.lines.proofs.words.Line.kind.Goals as goal

pub returns-then-contains : goal.returns-then-contains
returns-then-contains c = rw (← among-any c.args.self.patterns.now c.args.t, ← c.contains.ensures.value, c.if-contains.true)

pub returns-else-contains : goal.returns-else-contains
returns-else-contains c = rw (← among-any c.args.self.patterns.now c.args.t, ← c.contains.ensures.value, c.if-contains.false)
