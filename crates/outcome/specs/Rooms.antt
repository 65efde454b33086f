-- How many numbers the exact path wants of the two lent rooms, and what a room holds after a call. Definitions only. Assumes nothing.
use Rattle.std.specs.Prelude.{ℕ, Bool, cond, List, ◌++◌, drop, replicate, Float}
use Rattle.floats.specs.Words.{plus_zero}
use Rattle.floats.specs.Limits.{matrix_room}
-- of part room: as many as Imhof's step works in
pub use Rattle.imhof.specs.Room.{part_room}

-- of matrix room, for n rows: two lower triangles
abbrev pub room_of : ℕ → ℕ
room_of n = matrix_room n

-- a room after the call: its first m numbers are +0 where it was used, and the rest stays
abbrev pub cleared_of : Bool → ℕ → List Float → List Float
cleared_of used m room = cond used (replicate m plus_zero ++ drop m room) room
