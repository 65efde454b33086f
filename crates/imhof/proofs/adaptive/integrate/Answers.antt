use Rattle.std.specs.Prelude.{Ok}
use Rattle.imhof.proofs.HeldLaws.{Held, first, held_first, held_next, one-more, held-settled, held-refused, held_all, ended-laid, answer-open, answer-settled, first-refused, from_range, laid_none}
use Rattle.imhof.specs.declared.Standing.TheVariants.{Refused}
use Rattle.imhof.specs.Imhof.{quadrature_of}
use Rattle.imhof.specs.Quadrature.{broken}
use Rattle.imhof.specs.Room.{laid_out}
use Rattle.imhof.specs.Parts.{finite_part, one_rule}
use Rattle.imhof.specs.Rule.{rule_size}
use Rattle.imhof.specs.Integrand.{integrand_of}
use Rattle.floats.specs.Count.{no_work}
use native.Mathlib.Omega.{arith}
use borrow.Author.Rules.{rules}
use Prim.Native.Nat.{◌+◌}
use mathlib.Core.Path.{◌≡◌, refl, ap, sym, subst, ◌∙◌}
use Rattle.imhof.proofs.adaptive.integrate.Goals as goal

pub returns-then-not-is_finite : goal.returns-then-not-is_finite
returns-then-not-is_finite c = let e = first-refused (integrand_of c.args.weights.now) c.args.lo c.args.hi (ap finite_part (sym c.gk15-whole.ensures) ∙ sym c.is_finite.ensures ∙ c.if-not-is_finite.true) in
    record { value = ap quadrature_of (sym e); parts_after = sym (ap (λ s. laid_out s.parts c.args.parts.now) e ∙ laid_none c.args.parts.now) }

pub loop-init : goal.loop-init
loop-init c = let s = c.put.new.self in
    let one = c.put.ensures.same_room.1 in
    let work : c.evaluated-tally.result ≡ one_rule no_work = c.evaluated-tally.ensures ∙ ap one_rule c.new.ensures in
    record {
      turns = omega arith;
      count = one;
      same_room = refl;
      bisections = ap (λ t. t.bisections) work;
      evaluations = rw one (ap (λ t. t.evaluations + rule_size) work);
      held = rw (work, one) (held_first (integrand_of c.args.weights.now) s.room.now (one_rule no_work));
    }

pub returns-in-Settled : goal.returns-in-Settled
returns-in-Settled c = let f = integrand_of c.args.weights.now in
    let s = c.put.new.self.room.now in
    let after = c.advance.new.self in
    let all = answer-settled f (first s) s after.room.now c.loop.tally after.n (held-settled f (first s) s c.loop.held.room.now c.loop.tally c.loop.held.n (omega arith) (omega arith) c.loop.held.fits.2 c.loop.invariant.held after.room.now after.n (c.in-Settled.ensures.value c.loop.tally) (c.advance.ensures.count c.loop.tally) (c.advance.ensures.room_after c.loop.tally)) in
    let h = from_range f c.args.lo c.args.hi c.gk15-whole.result c.args.parts.now s c.requires c.gk15-whole.ensures (sym c.is_finite.ensures ∙ c.if-not-is_finite.false) c.put.ensures.room_after (Ok c.total.result) after.room.now (ap Ok c.total.ensures ∙ all.0, all.1) in
    let laid = h.1 in
    record { value = h.0; parts_after = search rules }

pub returns-in-Refused : goal.returns-in-Refused
returns-in-Refused c = let f = integrand_of c.args.weights.now in
    let s = c.put.new.self.room.now in
    let after = c.advance.new.self.room.now in
    let end = held-refused f (first s) s c.loop.held.room.now c.loop.tally c.loop.held.n (omega arith) (omega arith) c.loop.held.fits.2 c.loop.invariant.held after (c.in-Refused.ensures.value c.loop.tally) (c.advance.ensures.room_after c.loop.tally) in
    let h = from_range f c.args.lo c.args.hi c.gk15-whole.result c.args.parts.now s c.requires c.gk15-whole.ensures (sym c.is_finite.ensures ∙ c.if-not-is_finite.false) c.put.ensures.room_after broken after (sym (ap quadrature_of end.0), ended-laid f (first s) s after c.loop.tally c.loop.held.n Refused end) in
    let laid = h.1 in
    record { value = h.0; parts_after = search rules }

pub loop-preserved : goal.loop-preserved
loop-preserved c = let f = integrand_of c.args.weights.now in
    let s = c.put.new.self.room.now in
    let after = c.advance.new.self in
    let loop = c.loop in
    let more = one-more f (first s) s c.loop.held.room.now c.loop.tally c.loop.held.n (omega arith) (omega arith) c.loop.held.fits.2 c.loop.invariant.held after.n (c.in-Open.ensures.value c.loop.tally) (c.advance.ensures.count c.loop.tally) in
    let next = held_next f (first s) s c.loop.held.room.now c.loop.tally c.loop.held.n (omega arith) (omega arith) c.loop.held.fits.2 c.loop.invariant.held after.room.now after.n (c.in-Open.ensures.value c.loop.tally) (c.advance.ensures.count c.loop.tally) (c.advance.ensures.room_after c.loop.tally) in
    record {
      turns = omega arith;
      count = more ∙ ap (λ n. n + 1) loop.invariant.count;
      same_room = c.advance.ensures.same_room ∙ loop.invariant.same_room;
      bisections = ap (λ t. t.bisections) c.with_bisection-tally.ensures ∙ ap (λ n. n + 1) loop.invariant.bisections;
      evaluations = ap (λ t. t.evaluations + rule_size) c.with_bisection-tally.ensures ∙ omega (arith, more, loop.invariant.evaluations);
      held = subst (λ u. Held f (first s) s after.room.now u after.n) (sym c.with_bisection-tally.ensures) next;
    }

pub returns : goal.returns
returns c = let f = integrand_of c.args.weights.now in
    let s = c.put.new.self.room.now in
    let held = c.loop.held in
    let all = answer-open f (first s) s held.room.now c.loop.tally held.n (held_all f (first s) s held.room.now c.loop.tally held.n (omega arith) c.loop.invariant.held) in
    let h = from_range f c.args.lo c.args.hi c.gk15-whole.result c.args.parts.now s c.requires c.gk15-whole.ensures (sym c.is_finite.ensures ∙ c.if-not-is_finite.false) c.put.ensures.room_after (Ok c.total-2.result) held.room.now (ap Ok c.total-2.ensures ∙ all.0, all.1) in
    let laid = h.1 in
    record { value = h.0; parts_after = search rules }
