-- Digits are put from the last one up: those behind place t stand there, and the rest of the number is n without them. Assumes nothing.
use Prim.Native.Nat.{◌^◌, ◌/◌, ◌-◌}
use mathlib.Core.Path.{◌≡◌}
use lib.ListN.{length}
use Rattle.lines.specs.Lines.{digits, put_at}
use Rattle.lines.proofs.words.put_digits.Given as goal

abbrev pub invariant-loop-t : goal.invariant-loop-t
invariant-loop-t l = (l.rest ≡ l.n / l.base ^ (length l.initial.out - l.t)) × (l.out ≡ put_at l.t (digits l.base (length l.initial.out - l.t) l.n) l.initial.out)
