-- A room that is not used, and one that was worked in and then cleared. Assumes nothing.
use mathlib.Core.Path.{◌≡◌, ◌∙◌}
use mathlib.Core.Bool.{Bool, true, false}
use Prim.Native.Nat.{ℕ}
use mathlib.Core.List.{List, ◌++◌}
use lib.ListN.{drop, replicate}
use lib.Ieee.{Float}
use Rattle.floats.specs.Words.{plus_zero}
use Rattle.outcome.specs.Rooms.{cleared_of}

-- a room that is not used stays
pub untouched : (b : Bool) (m : ℕ) (room : List Float) → b ≡ false → room ≡ cleared_of b m room
untouched b m room h = rw h

-- one whose numbers from m on were kept is, cleared, as if it had been cleared at once
pub wiped : (m : ℕ) (room used end : List Float) → end ≡ replicate m plus_zero ++ drop m used → drop m used ≡ drop m room → end ≡ cleared_of true m room
wiped m room used end e s = e ∙ rw s
