-- How many evaluations a rule is: one at each of its points, 15 on every interval, and a bisection 30. And that a value behind the points' is read by no sum. Assumes nothing.
use mathlib.Core.Path.{◌≡◌, refl}
use Prim.Native.Nat.{◌+◌}
use native.Mathlib.Omega.{arith}
use lib.ListN.{length}
use lib.Ieee.{Float}
use Rattle.floats.specs.Count.{evaluated, one_bisection}
use Rattle.floats.specs.declared.tally.Tally.{Tally}
use mathlib.Core.List.{[], ◌∷◌, ◌++◌, map}
use Rattle.floats.specs.Turns.{turns}
use Rattle.imhof.specs.Rule.{points_of, rule_size, rule_of, gk15_of}
use Rattle.imhof.specs.Parts.{one_rule}

pub rule-size : (a b : Float) → length (points_of a b) ≡ rule_size
rule-size a b = refl

pub rule-asks : (a b : Float) → length (points_of a b) ≡ 15
rule-asks a b = refl

pub rule-counts : (a b : Float) (t : Tally) → one_rule t ≡ evaluated (length (points_of a b)) t
rule-counts a b t = refl

pub bisection-asks : (t : Tally) → (one_rule (one_rule (one_bisection t))).evaluations ≡ t.evaluations + 30
bisection-asks t = omega arith

-- whatever value stands behind the points'
pub rule-reads : (f : Float → Float) (a b y : Float) → rule_of a b (map f (points_of a b) ++ (y ∷ [])) ≡ gk15_of f a b
unfolding gk15_of turns
rule-reads f a b y = refl
