use native.Mathlib.Omega.{arith}
use native.Mathlib.Nat.{le_antisymm}
use mathlib.Core.Path.{refl}
use lib.ListN.{length}
use lib.Ieee.{neg, of_bits}
use Rattle.floats.specs.Sums.{sum_of}
use Rattle.halves.specs.RowStarts.{row_start}
use Rattle.halves.proofs.StoreLaws.{eight-listed}
use Rattle.halves.proofs.StepLaws.{dot_term, dot-more, eight-reach}
use borrow.Author.Rules.{rules}
use Rattle.halves.proofs.eight_dots.Goals as goal

pub loop-j-init : goal.loop-j-init
unfolding sum_of neg of_bits
loop-j-init c = (omega arith, refl, refl, refl, refl, refl, refl, refl, refl, refl, eight-reach _ _ _ c.requires.1)

pub loop-j-preserved : goal.loop-j-preserved
unfolding row_start
loop-j-preserved c = (omega arith, search rules, rw c.loop-j.invariant.2 (dot-more _ _ _ 0 _ _ (omega arith)), rw c.loop-j.invariant.3 (dot-more _ _ _ 1 _ _ (omega arith)), rw c.loop-j.invariant.4 (dot-more _ _ _ 2 _ _ (omega arith)), rw c.loop-j.invariant.5 (dot-more _ _ _ 3 _ _ (omega arith)), rw c.loop-j.invariant.6 (dot-more _ _ _ 4 _ _ (omega arith)), rw c.loop-j.invariant.7 (dot-more _ _ _ 5 _ _ (omega arith)), rw c.loop-j.invariant.8 (dot-more _ _ _ 6 _ _ (omega arith)), rw c.loop-j.invariant.9 (dot-more _ _ _ 7 _ _ (omega arith)), search rules)

pub returns : goal.returns
unfolding dot_term
returns c = rw (c.loop-j.invariant.2, c.loop-j.invariant.3, c.loop-j.invariant.4, c.loop-j.invariant.5, c.loop-j.invariant.6, c.loop-j.invariant.7, c.loop-j.invariant.8, c.loop-j.invariant.9, le_antisymm c.loop-j.invariant.0 (search rules)) (eight-listed (λ s. sum_of (length c.args.v.now) (dot_term c.args.xs.now c.args.stride c.args.v.now s)))
