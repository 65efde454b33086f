use Rattle.imhof.proofs.RoomLaws.{run_in}
use Rattle.imhof.specs.Room.{errors, stored_at}
use Rattle.floats.specs.Sums.{sum_run}
use native.Mathlib.Omega.{arith}
use mathlib.Core.Path.{refl, ap, ◌∙◌}
use Rattle.imhof.proofs.room.Parts.error_sum.Goals as goal

pub returns : goal.returns
unfolding stored_at
returns c = c.sum.ensures ∙ ap sum_run (run_in (λ p. p.error) errors c.args.self.now.n c.args.self.now.room.now (λ i. refl) refl (omega arith))
