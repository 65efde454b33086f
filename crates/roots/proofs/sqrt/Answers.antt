-- `sqrt`: each way out of the code is a case of Cases.antt.
use Rattle.std.proofs.Common.{◌≡◌, ◌-◌, ◌/◌, ◌^◌, true, T, sym, ap, ◌∙◌, arith, rules}
use lib.Count.{count_leading_zeros}
use lib.Ieee.{Float, binary64, div, fits, lt, of_bits, to_bits}
use Rattle.floats.specs.Words.{plus_zero}
use Rattle.roots.specs.Root.{root_of}
use Rattle.roots.proofs.Cases.{negative, level, infinite, Positive, positive, Shift, shift, subnormal}
use Rattle.roots.proofs.sqrt.Goals as goal

pub returns-then-x : goal.returns-then-x
unfolding of_bits div
returns-then-x c = negative c.args.x c.if-x.true

pub returns-in-2047 : goal.returns-in-2047
returns-in-2047 c = infinite c.args.x (search rules) c.if-x-2.true c.in-2047.is

-- of a number above 0 with the field 0: its root, and its digits moved up
small : (x : Float) → T (fits binary64 x) → lt plus_zero x ≡ true → to_bits binary64 x / 2 ^ 52 ≡ 0 → Positive x (to_bits binary64 x) × Shift (to_bits binary64 x) (count_leading_zeros 64 (to_bits binary64 x) - 11)
small x F h e = let p = positive x F h (λ g. absurd (omega (arith, e, g))) in (p, shift (to_bits binary64 x) p.some (omega (arith, e)))

pub overflow_sub-z : goal.overflow_sub-z
overflow_sub-z c = (small c.args.x (search rules) c.if-x-2.true c.in-0.is).1.zeros

pub overflow_add-b : goal.overflow_add-b
overflow_add-b c = let s = (small c.args.x (search rules) c.if-x-2.true c.in-0.is).1 in omega (arith, s.most, s.below)

pub root_of-requires : goal.root_of-requires
root_of-requires c = let s = (small c.args.x (search rules) c.if-x-2.true c.in-0.is).1 in (omega (arith, s.most, s.from, s.below), omega (arith, s.most, s.from, s.below))

pub returns-in-0 : goal.returns-in-0
returns-in-0 c =
    let b = to_bits binary64 c.args.x in
    let s = small c.args.x (search rules) c.if-x-2.true c.in-0.is in
    c.root_of.ensures ∙ ap root_of (subnormal b (count_leading_zeros 64 b - 11) c.in-0.is s.1) ∙ sym s.0.root

pub root_of_normal-requires : goal.root_of_normal-requires
root_of_normal-requires c =
    let p = positive c.args.x (search rules) c.if-x-2.true (λ e. absurd (omega (arith, e, c.in_default))) in
    (omega arith, p.below)

pub returns : goal.returns
returns c = level c.args.x c.if-x.false c.if-x-2.false
