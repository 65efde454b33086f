use Prim.Native.Nat.{◌≤◌}
use mathlib.Core.Path.{◌≡◌}
use lib.ListN.{length}
use Rattle.halves.specs.RowStarts.{row_start}
use Rattle.rows.proofs.TermLaws.{terms_to}
use Rattle.halves.proofs.add_rows.Given as goal

abbrev pub invariant-loop-t : goal.invariant-loop-t
invariant-loop-t l = (l.t ≤ length l.w) × (length l.row ≡ length l.initial.row) × (l.t-end ≡ length l.w) × (l.start ≡ row_start l.stride l.t) × (l.row ≡ terms_to l.initial.row l.xs (row_start l.stride) l.w l.t)
