-- The two tests are the definition's. The loop's invariant: the front of the items is the table of the numbers read so far, and the rest is as it was. Assumes nothing.
use mathlib.Core.List.{◌++◌}
use mathlib.Core.Path.{◌≡◌}
use lib.ListN.{drop}
use Rattle.sheet.specs.Contents.{numbers_of}
use Rattle.sheet.proofs.file.read_numbers.Given as goal

abbrev pub invariant-loop-t : goal.invariant-loop-t
invariant-loop-t l = l.x-items ≡ numbers_of l.file l.e l.first l.t ++ drop l.t l.initial.x-items
