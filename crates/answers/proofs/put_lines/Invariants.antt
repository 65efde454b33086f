-- The loop's invariant: `Put`, of the reader, and of its next entry's number, which `enumerate` counts. Assumes nothing.
use Rattle.answers.proofs.NextLaws.{Put}
use Rattle.answers.proofs.put_lines.Given as goal

abbrev pub invariant-loop-i : goal.invariant-loop-i
invariant-loop-i l = Put l.file l.initial.out l.i-iterator.iter l.i-iterator.count l.at l.out
