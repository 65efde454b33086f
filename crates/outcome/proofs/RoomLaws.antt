-- How large a matrix room can be. Assumes nothing.
use Prim.Native.Nat.{ℕ, ◌+◌, ◌≤◌}
use native.Mathlib.Nat.{mul-le-mul}
use native.Mathlib.Omega.{arith}
use Rattle.floats.specs.Limits.{max_rows}
use Rattle.outcome.specs.Rooms.{room_of}

pub room_small : (n : ℕ) → n ≤ max_rows → room_of n ≤ room_of max_rows
room_small n h = let g : n + 1 ≤ max_rows + 1 = omega arith in mul-le-mul h g
