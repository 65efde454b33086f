-- std's clamp tests one end after the other, and 0 is not above 1. Assumes nothing.
use mathlib.Core.Bool.{Bool, true, false, cond}
use mathlib.Core.Path.{◌≡◌, refl, ap, ◌∙◌}
use lib.Ieee.{Float, lt, of_bits}
use Rattle.std.specs.Float.{float_clamp}
use Rattle.floats.specs.Words.{plus_zero, one}
use Rattle.imhof.specs.Imhof.{clamp_of}
use Rattle.imhof.proofs.clamped.Goals as goal

is-clamp : (x : Float) → float_clamp x plus_zero one ≡ clamp_of x
unfolding clamp_of
is-clamp x = go (lt x plus_zero)
  where
    go : (b : Bool) → cond b plus_zero (cond (lt one x) one x) ≡ cond (lt one (cond b plus_zero x)) one (cond b plus_zero x)
    go true = unfold lt of_bits in refl
    go false = refl

pub returns : goal.returns
returns c = let e : c.clamp.result ≡ clamp_of c.args.raw = c.clamp.ensures.value ∙ is-clamp c.args.raw in
    ap (λ (p : Float). record { raw = c.args.raw; probability = p; tally = c.args.tally; small = c.args.small }) e
