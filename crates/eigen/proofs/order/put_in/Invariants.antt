-- What is carried, put before the rest of the part, makes the same list after every move. Assumes nothing.
use mathlib.Core.List.{◌∷◌, ◌++◌}
use lib.ListN.{take, drop}
use mathlib.Core.Path.{◌≡◌}
use Rattle.eigen.proofs.order.put_in.Given as goal

abbrev pub invariant-loop-number : goal.invariant-loop-number
invariant-loop-number l = take l.number-index l.number-items ++ (l.x ∷ drop l.number-index l.number-items) ≡ l.initial.x ∷ l.initial.number-items
