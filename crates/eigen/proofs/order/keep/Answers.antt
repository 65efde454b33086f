use lib.ListN.{length, take, drop, length-append, length-take, set}
use lib.Ieee.{Float, nan, lt}
use Rattle.std.proofs.lemmas.List.{get_or-take}
use mathlib.Core.Bool.{true, false}
use mathlib.Core.List.{List, ◌++◌}
use Rattle.floats.specs.Words.{◌‼◌}
use Rattle.eigen.specs.Kept.{large, kept_above}
use Rattle.eigen.proofs.OrderLaws.{large-kept, large-left, store-next}
use Prim.Native.Nat.{ℕ, ◌+◌, ◌≤◌, ◌<◌}
use native.Mathlib.Omega.{arith}
use mathlib.Core.Path.{◌≡◌, refl, ◌∙◌}
use Rattle.eigen.proofs.order.keep.Goals as goal
use Rattle.eigen.proofs.order.keep.Goals.{then-x, else-x}

-- how far the front has come when t numbers are done
module _ (d k₀ : List Float) (m t n n' : ℕ) (k k' : List Float) (h : m ≤ length d) (g : m ≤ length k₀) (b : t < m) (c : n ≤ t) (p : n ≡ length (large (take t d))) (q : k ≡ large (take t d) ++ drop n k₀) where
  abbrev Done : Type 0
  Done = (t + 1 ≤ m) × (n' ≤ t + 1) × (n' ≡ length (large (take (t + 1) d))) × (k' ≡ large (take (t + 1) d) ++ drop n' k₀)

  item : take m d ‼ t ≡ d ‼ t
  item = get_or-take m d t nan b

  stored : lt kept_above (take m d ‼ t) ≡ true → n' ≡ n + 1 → k' ≡ set k n (take m d ‼ t) → Done
  stored a e f' = let l = rw item at a in let f = rw item at f' in (omega arith, omega arith, e ∙ rw (large-kept d t (omega arith) l, length-append, ← p), f ∙ rw (q, e, large-kept d t (omega arith) l) (store-next (large (take t d)) k₀ (d ‼ t) n p (omega arith)))

  left : lt kept_above (take m d ‼ t) ≡ false → n' ≡ n → k' ≡ k → Done
  left a e f = let l = rw item at a in (omega arith, omega arith, e ∙ p ∙ rw (large-left d t (omega arith) l), f ∙ q ∙ rw (large-left d t (omega arith) l, e))

pub loop-x-init : goal.loop-x-init
unfolding large
loop-x-init c = (omega arith, omega arith, refl, refl)

pub loop-x-preserved : goal.loop-x-preserved
loop-x-preserved c = let loop = c.loop-x in
    let d = c.args.d.now in
    let b : loop.x-index < c.args.m = omega (arith, c.loop-x-test.true, length-take c.args.m d) in
    elim c.if-x.branch [
      | then-x w ↦ stored d c.args.kept.now c.args.m loop.x-index loop.count c.if-x.count loop.kept c.if-x.kept c.requires.0 c.requires.1 b loop.invariant.1 loop.invariant.2 loop.invariant.3 w.if-x.true w.count-is w.kept-is
      | else-x w ↦ left d c.args.kept.now c.args.m loop.x-index loop.count c.if-x.count loop.kept c.if-x.kept c.requires.0 c.requires.1 b loop.invariant.1 loop.invariant.2 loop.invariant.3 w.if-x.false w.count-is w.kept-is
    ]
