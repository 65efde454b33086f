use Rattle.imhof.specs.Room.{stored}
use mathlib.Core.Path.{refl}
use Rattle.imhof.proofs.room.Parts.put.Goals as goal

pub returns-clause-room_after : goal.returns-clause-room_after
unfolding stored
returns-clause-room_after c = refl
