-- The test with the rule before W-208, when whole matrices were kept: n rows wanted 2n² numbers of matrix room. Definitions only. Assumes nothing.
use Rattle.std.specs.Prelude.{ℕ, ◌*◌, Bool, List, Float}
use Rattle.outcome.specs.declared.Alternative.{Alternative}
use Rattle.dwtest.specs.Test.{test_with, touched_with}
use Rattle.outcome.specs.declared.Outcome.{Outcome}
use Rattle.outcome.specs.declared.Choice.{Choice}

-- how many numbers of matrix room n rows wanted: two whole matrices
abbrev pub full_room : ℕ → ℕ
full_room n = 2 * (n * n)

-- what the test answered, and whether it used the rooms
abbrev pub full_test_of : List Float → List Float → ℕ → Alternative → Choice → ℕ → ℕ → Outcome
full_test_of e x k alternative choice matrix_room part_room = test_with full_room e x k alternative choice matrix_room part_room

abbrev pub full_touched : List Float → List Float → ℕ → Choice → ℕ → ℕ → Bool
full_touched e x k choice matrix_room part_room = touched_with full_room e x k choice matrix_room part_room
