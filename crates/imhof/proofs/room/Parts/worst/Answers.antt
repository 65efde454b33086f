use Rattle.imhof.proofs.RoomLaws.{run_in}
use Rattle.imhof.specs.Room.{errors, stored_at}
use Rattle.imhof.specs.Parts.{last_greatest}
use native.Mathlib.Omega.{arith}
use mathlib.Core.Path.{refl, ap, ◌∙◌}
use Rattle.imhof.proofs.room.Parts.worst.Goals as goal

pub returns-clause-value : goal.returns-clause-value
unfolding stored_at
returns-clause-value c = c.last_greatest.ensures.value ∙ ap last_greatest (run_in (λ p. p.error) errors c.args.self.now.n c.args.self.now.room.now (λ i. refl) refl (omega arith))
