-- What the lower triangle holds at (i + 1, i) is the entry of the whole matrix. Assumes nothing.
use Rattle.floats.proofs.HalfLaws.{entry_whole, half-low, triangle-apart}
use native.Mathlib.Omega.{arith}
use mathlib.Core.Path.{sym, ◌∙◌}
use borrow.Author.Tests.{lt-ltb, le-ltb}
use borrow.Author.Rules.{rules}
use Rattle.tridiagonal.proofs.Triangle.coupling.Goals as goal

pub offset_bounds-self-place : goal.offset_bounds-self-place
offset_bounds-self-place c = omega (arith, triangle-apart c.if-i-self.true)

pub bounds-self-place : goal.bounds-self-place
bounds-self-place c = omega (arith, triangle-apart c.if-i-self.true)

pub returns-then-i-self : goal.returns-then-i-self
returns-then-i-self c = rw (lt-ltb _ _ c.if-i-self.true, c.place.ensures) (sym (entry_whole _ _ _ _ c.if-i-self.true (search rules) ∙ half-low _ _ _ (omega arith)))

pub returns-else-i-self : goal.returns-else-i-self
returns-else-i-self c = rw (le-ltb _ _ c.if-i-self.false)
