use Rattle.floats.proofs.HalfLaws.{entry_whole, half-low, triangle-apart}
use native.Mathlib.Omega.{arith}
use mathlib.Core.Path.{◌∙◌}
use Rattle.tridiagonal.proofs.Triangle.diagonal.Goals as goal

pub offset_bounds-self-place : goal.offset_bounds-self-place
offset_bounds-self-place c = omega (arith, triangle-apart c.requires)

pub bounds-self-place : goal.bounds-self-place
bounds-self-place c = omega (arith, triangle-apart c.requires)

pub returns : goal.returns
returns c = let here = entry_whole _ _ _ _ c.requires c.requires ∙ half-low c.args.self.now.a.now c.args.i c.args.i (omega arith) in rw (c.place.ensures, ← here)
