-- The words and their kinds are those of the definition, by computation. Assumes nothing.
use Rattle.floats.specs.Tables.{table}
use Rattle.lines.specs.Lines.{among}
use Rattle.lines.proofs.write_line.Goals as goal

pub returns : goal.returns
unfolding table among
returns c = rw c.fields_of.ensures at c.write_words.ensures
