use Prim.Native.Nat.{◌≤◌, ◌-◌, ◌*◌}
use mathlib.Core.Path.{◌≡◌}
use lib.ListN.{length}
use Rattle.rows.proofs.TermLaws.{terms_to}
use Rattle.rows.proofs.add_terms.Given as goal

abbrev pub invariant-loop-t : goal.invariant-loop-t
invariant-loop-t l = (l.t ≤ length l.w) × (l.k ≡ length l.w) × (length l.row ≡ length l.initial.row) × (l.row ≡ terms_to l.initial.row l.xs (λ s. s * l.stride) l.w l.t)

abbrev pub decreases-loop-t : goal.decreases-loop-t
decreases-loop-t l = length l.w - l.t
