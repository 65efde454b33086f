-- Where the part room keeps a list of parts: four runs, each of a number for every part that there can be, for left ends, right ends, values and error
-- estimates. Definitions only. Assumes nothing.
use Rattle.std.specs.Prelude.{ℕ, ◌+◌, ◌*◌, ◌≤◌, List, length, set, Float}
use Rattle.floats.specs.Words.{◌‼◌}
use Rattle.floats.specs.Turns.{turns}
use Rattle.floats.specs.Tables.{table}
use Rattle.imhof.specs.declared.Part.{Part}
use Rattle.imhof.specs.Parts.{part_at, most_parts}

-- how many numbers the four runs are: src/lib.rt's PART_ROOM
abbrev pub part_room : ℕ
part_room = 4 * most_parts

-- a room holds them, and may go on
abbrev pub PartRoom : List Float → Type 0
PartRoom room = part_room ≤ length room

-- where each run begins
abbrev pub left_ends : ℕ
left_ends = 0

abbrev pub right_ends : ℕ
right_ends = most_parts

abbrev pub values : ℕ
values = 2 * most_parts

abbrev pub errors : ℕ
errors = 3 * most_parts

-- the room with p as its part i
unfoldable pub stored : ℕ → Part → List Float → List Float
stored i p room = set (set (set (set room (left_ends + i) p.lo) (right_ends + i) p.hi) (values + i) p.value) (errors + i) p.error

-- the room with a list of parts from part 0 on; every other number stays
unfoldable pub laid_out : List Part → List Float → List Float
unfolding turns
laid_out ps room = turns (length ps) (λ i. stored i (part_at ps i)) room

-- part i of the room, and its first n parts
unfoldable pub stored_at : List Float → ℕ → Part
stored_at room i = record { lo = room ‼ (left_ends + i); hi = room ‼ (right_ends + i); value = room ‼ (values + i); error = room ‼ (errors + i) }

unfoldable pub parts_in : ℕ → List Float → List Part
unfolding table
parts_in n room = table (λ i. stored_at room i) n
