-- How the test ends where it refuses: with the reason's refusal, with both rooms as they were, and vouched for. Assumes nothing.
use mathlib.Core.Path.{◌≡◌, sym, ◌∙◌, subst}
use mathlib.Core.Bool.{false}
use mathlib.Core.List.{List}
use Prim.Native.Nat.{ℕ}
use lib.ListN.{length}
use lib.Ieee.{Float}
use Rattle.std.specs.Prelude.{Result}
use Rattle.std.specs.Result.{IsErrAnd}
use Rattle.outcome.specs.Refusals.{refusal_of}
use Rattle.outcome.specs.Result.{refused_of, outcome_in}
use Rattle.outcome.specs.Rooms.{room_of, part_room, cleared_of}
use Rattle.outcome.specs.declared.Alternative.{Alternative}
use Rattle.outcome.specs.declared.Choice.{Choice}
use Rattle.outcome.specs.declared.Outcome.{Outcome}
use Rattle.outcome.specs.declared.refusals.TestError.{TestError}
use Rattle.dwtest.specs.Test.{test_of, touched}
use Rattle.dwtest.specs.Vouched.{Vouched}
use Rattle.dwtest.proofs.RoomLaws.{untouched}
use Rattle.dwtest.proofs.TestLaws.{Tested, outcome-at}
use Rattle.dwtest.proofs.VouchLaws.{reason-vouched}

pub refusal-ends : (e x : List Float) (k : ℕ) (alternative : Alternative) (choice : Choice) (matrix parts : List Float) (r : Result Outcome TestError) (why : TestError)
    → IsErrAnd r (λ found. found ≡ why) → Tested room_of e x k alternative choice (length matrix) (length parts) (refused_of (refusal_of why)) false
    → (outcome_in r ≡ test_of e x k alternative choice (length matrix) (length parts))
    × (matrix ≡ cleared_of (touched e x k choice (length matrix) (length parts)) (room_of (length e)) matrix)
    × (parts ≡ cleared_of (touched e x k choice (length matrix) (length parts)) part_room parts)
    × Vouched (outcome_in r) e
refusal-ends e x k alternative choice matrix parts r why h s =
    let told = outcome-at r why h in
    (told ∙ sym s.0, untouched _ (room_of (length e)) matrix s.1, untouched _ part_room parts s.1, subst (λ o. Vouched o e) (sym told) (reason-vouched e why))
