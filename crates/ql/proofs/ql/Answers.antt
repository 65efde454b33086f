use Rattle.ql.specs.Ql.{ql_of, stuck_of}
use Rattle.ql.proofs.SweepLaws.{all-sweeps}
use native.Mathlib.Omega.{arith}
use native.Mathlib.Numerals.{add-one}
use mathlib.Core.Path.{refl, ◌∙◌}
use Rattle.ql.proofs.ql.Goals as goal

pub loop-l-init : goal.loop-l-init
unfolding ql_of stuck_of
loop-l-init c = (omega arith, refl, refl, refl, refl, refl)

pub settle_and_look-swept-requires : goal.settle_and_look-swept-requires
settle_and_look-swept-requires c = let args = c.args in
    let loop = c.loop-l in
    (omega arith, omega (arith, rw (← loop.invariant.4) at (all-sweeps args.n loop.l args.d.now args.e.now args.work)))

pub loop-l-preserved : goal.loop-l-preserved
unfolding ql_of stuck_of
loop-l-preserved c = let loop = c.loop-l in
    let turn = c.settle_and_look-swept in
    let same = turn.ensures.same_runs in
    (omega arith, same.0 ∙ loop.invariant.1, same.1 ∙ loop.invariant.2, same.2 ∙ loop.invariant.3, rw (add-one loop.l, turn.ensures.stuck_value.1, turn.ensures.d_after, turn.ensures.e_after, ← loop.invariant.4, loop.invariant.3), rw (add-one loop.l, turn.ensures.stuck_value.0, loop.invariant.5, ← loop.invariant.4, loop.invariant.3))
