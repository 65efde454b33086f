use Rattle.std.proofs.Common.{◌≡◌, true, false, cond, ◌||◌, sym, refl, ◌∙◌, true≢false}
use Rattle.std.specs.Float.{float_is_infinite}
use mathlib.Core.Bool.{false≢true}
use lib.Ieee.{Float, nan, inf, fin, is_nan, of_bits}
use Rattle.roots.specs.Hypot.{hypot_of}
use Rattle.roots.proofs.beside_nan.Goals.{then-is_infinite, else-is_infinite}
use Rattle.roots.proofs.beside_nan.Goals as goal

beside : (x y : Float) → (is_nan x || is_nan y) ≡ true → cond (float_is_infinite x || float_is_infinite y) (inf false) nan ≡ hypot_of x y
unfolding hypot_of is_nan float_is_infinite
beside (inf s) y h = refl
beside nan nan h = refl
beside nan (inf t) h = refl
beside nan (fin t n d) h = refl
beside (fin s m e) nan h = refl
beside (fin s m e) (inf t) h = refl
beside (fin s m e) (fin t n d) h = absurd (false≢true h)

pub returns-then-is_infinite-2 : goal.returns-then-is_infinite-2
unfolding of_bits
returns-then-is_infinite-2 c = elim c.if-is_infinite.branch [
  | then-is_infinite w ↦ rw (sym c.is_infinite.ensures.value ∙ w.if-is_infinite.true) at (beside c.args.x c.args.y c.requires)
  | else-is_infinite w ↦ rw (sym c.is_infinite.ensures.value ∙ w.if-is_infinite.false, sym w.is_infinite-else-is_infinite.ensures.value ∙ sym w.value-is ∙ c.if-is_infinite-2.true) at (beside c.args.x c.args.y c.requires)
]

pub returns-else-is_infinite-2 : goal.returns-else-is_infinite-2
unfolding of_bits
returns-else-is_infinite-2 c = elim c.if-is_infinite.branch [
  | then-is_infinite w ↦ absurd (true≢false (sym w.if-is_infinite.true ∙ sym w.value-is ∙ c.if-is_infinite-2.false))
  | else-is_infinite w ↦ rw (sym c.is_infinite.ensures.value ∙ w.if-is_infinite.false, sym w.is_infinite-else-is_infinite.ensures.value ∙ sym w.value-is ∙ c.if-is_infinite-2.false) at (beside c.args.x c.args.y c.requires)
]
