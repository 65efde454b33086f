use Rattle.imhof.specs.Parts.{last_greatest}
use Rattle.floats.specs.Turns.{turns}
use native.Mathlib.Omega.{arith}
use native.Mathlib.Numerals.{add-one}
use mathlib.Core.Path.{◌≡◌, refl, sym, ◌∙◌}
use lib.ListN.{length}
use borrow.Author.Rules.{rules}
use Rattle.imhof.proofs.room.last_greatest.Goals.{then-not-comes_before, else-not-comes_before}
use Rattle.imhof.proofs.room.last_greatest.Goals as goal

pub loop-i-init : goal.loop-i-init
unfolding turns
loop-i-init c = (omega arith, refl, omega arith, refl)

pub loop-i-preserved : goal.loop-i-preserved
unfolding turns
loop-i-preserved c = elim c.if-not-comes_before.branch [
  | then-not-comes_before w ↦ (omega arith, search rules, omega arith, w.w-is ∙ sym (rw (add-one c.loop-i.i, ← c.loop-i.invariant.3, ← c.comes_before.ensures, w.if-not-comes_before.true)))
  | else-not-comes_before w ↦ (omega arith, search rules, omega arith, w.w-is ∙ sym (rw (add-one c.loop-i.i, ← c.loop-i.invariant.3, ← c.comes_before.ensures, w.if-not-comes_before.false)))
]

pub returns : goal.returns
unfolding last_greatest
returns c = let h : c.loop-i.i ≡ length c.args.errors.now = omega arith in record { bound = omega arith; value = cc }
