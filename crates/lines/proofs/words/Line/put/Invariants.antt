-- The loop's invariant: `Rest`, of the words from the t-th on. Assumes nothing.
use lib.ListN.{length, drop}
use Rattle.lines.specs.Lines.{line_of, words_at, put_at}
use Rattle.lines.proofs.LineLaws.{Rest}
use Rattle.lines.proofs.words.Line.put.Given as goal

abbrev pub invariant-loop-t : goal.invariant-loop-t
invariant-loop-t l = Rest (length (line_of (words_at l.self.values.now l.self.patterns.now))) (put_at 0 (line_of (words_at l.self.values.now l.self.patterns.now)) l.initial.out) (drop l.t (words_at l.self.values.now l.self.patterns.now)) l.at l.out
