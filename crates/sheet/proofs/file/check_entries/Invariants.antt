-- The loop's invariant: what is left of the order decides the whole, since every refusal before entry i has failed; and the body of entry i is due at `due`. Assumes nothing.
use Rattle.sheet.specs.Reading.{due_at, refusals_from, first_met}
use Prim.Native.Nat.{◌≤◌, ◌-◌}
use mathlib.Core.Path.{◌≡◌}
use Rattle.sheet.proofs.file.check_entries.Given as goal

abbrev pub invariant-loop-i : goal.invariant-loop-i
invariant-loop-i l = (l.i ≤ l.count) × (l.due ≡ due_at l.file l.i) × (first_met l.file (refusals_from l.i (l.count - l.i)) ≡ first_met l.file (refusals_from 0 l.count))
