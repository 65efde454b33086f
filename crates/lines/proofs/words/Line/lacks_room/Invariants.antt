-- The loop's invariant: what is left of the room falls short of what the words from the t-th on want by as much as the room of what all want. Assumes nothing.
use Prim.Native.Nat.{◌+◌}
use mathlib.Core.Path.{◌≡◌}
use lib.ListN.{drop}
use Rattle.lines.specs.Lines.{longest_of, kinds_of, words_at}
use Rattle.lines.proofs.words.Line.lacks_room.Given as goal

abbrev pub invariant-loop-t : goal.invariant-loop-t
invariant-loop-t l = l.left + longest_of (kinds_of (words_at l.self.values.now l.self.patterns.now)) ≡ l.room + longest_of (kinds_of (drop l.t (words_at l.self.values.now l.self.patterns.now)))
