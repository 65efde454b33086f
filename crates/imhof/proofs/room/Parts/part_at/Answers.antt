use Rattle.imhof.specs.Room.{stored_at}
use mathlib.Core.Path.{refl}
use Rattle.imhof.proofs.room.Parts.part_at.Goals as goal

pub returns : goal.returns
unfolding stored_at
returns c = refl
