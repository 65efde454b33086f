-- Each way out is one case of the definition, and what is done stays so (WorkLaws).
use Rattle.std.proofs.Common.{◌≡◌, ℕ, ◌+◌, ◌-◌, ◌<◌, ◌≤◌, ◌&&◌, true, false, List, length, sym, ap, ◌∙◌, arith}
use lib.Ieee.{le}
use lib.ListN.{length-set}
use mathlib.Core.Path.{ap₂, subst}
use mathlib.Core.Bool.{Bool}
use Rattle.std.specs.Prelude.{Float, Ok, set}
use Rattle.floats.specs.Count.{no_work}
use Rattle.floats.specs.declared.tally.Tally.{Tally}
use Rattle.imhof.specs.declared.Part.{Part}
use Rattle.imhof.specs.Integrand.{integrand_of}
use Rattle.imhof.specs.Parts.{most_parts, one_rule, finite_part, left_half, right_half, tolerance}
use Rattle.imhof.specs.Quadrature.{Quadrature, broken}
use Rattle.imhof.specs.Rule.{gk15_of, rule_size}
use Rattle.records.specs.declared.look.Look.{Look}
use Rattle.records.specs.Records.{look_of, sums_of, split_of, going, done, Work, work, start_by, found_of}
use Rattle.records.proofs.LookLaws.{worst-below}
use Rattle.records.proofs.WorkLaws.{finite_halves, after, work-none, turn-full, turn-small, turn-broken, turn-halved, stays-done}
use Rattle.records.proofs.refine.Goals as goal

module _ (f : Float → Float) (a b : Float) (ys : List Part) where
  -- the whole range as record 0
  started : (p : Part) → p ≡ gk15_of f a b → (fine : Bool) → finite_part p ≡ fine → after f a b ys 0 ≡ work (start_by fine) (set ys 0 p)
  started p e fine h =
      sym (work-none f a b ys) ∙ ap (λ (q : Part). work (start_by (finite_part q)) (set ys 0 q)) (sym e) ∙ ap (λ (t : Bool). work (start_by t) (set ys 0 p)) h

  -- what is done after n turns is done after all
  is-done : (n : ℕ) → n ≤ most_parts → (q : Quadrature) (ps : List Part) → after f a b ys n ≡ work (done q) ps
      → record { value : q ≡ found_of (after f a b ys most_parts); parts_after : ps ≡ (after f a b ys most_parts).records }
  is-done n h q ps e =
      let d = stays-done f a b ys n most_parts h q ps e in
      record { value = sym (ap found_of d); parts_after = sym (ap (λ (w : Work). w.records) d) }

  -- a look, and the halves of the record of greatest error that it found
  halves_of : (l m : Look) → l ≡ m → (p q : Part) → p ≡ left_half f l.greatest → q ≡ right_half f l.greatest → (fine : Bool) → finite_part p && finite_part q ≡ fine → finite_halves f m ≡ fine
  halves_of l m e p q left right fine h = ap (finite_halves f) (sym e) ∙ ap₂ (λ (x y : Part). finite_part x && finite_part y) (sym left) (sym right) ∙ h

pub returns-then-not-is_finite : goal.returns-then-not-is_finite
returns-then-not-is_finite c =
    let f = integrand_of c.args.weights.now in
    let ys = c.args.parts.now in
    is-done f c.args.lo c.args.hi ys 0 (omega arith) broken (set ys 0 c.gk15-whole.result) (started f c.args.lo c.args.hi ys c.gk15-whole.result c.gk15-whole.ensures false (sym c.is_finite.ensures ∙ c.if-not-is_finite.true))

pub loop-n-init : goal.loop-n-init
loop-n-init c =
    let f = integrand_of c.args.weights.now in
    let ys = c.args.parts.now in
    let made : c.evaluated-tally.result ≡ one_rule no_work = c.evaluated-tally.ensures ∙ ap one_rule c.new.ensures in
    record {
      bisections = ap (λ (t : Tally). t.bisections + 1) made;
      evaluations = ap (λ (t : Tally). t.evaluations + rule_size) made;
      worked = started f c.args.lo c.args.hi ys c.gk15-whole.result c.gk15-whole.ensures true (sym c.is_finite.ensures ∙ c.if-not-is_finite.false) ∙ ap (λ (t : Tally). work (going t) (set ys 0 c.gk15-whole.result)) (sym made);
    }

pub returns-then-look : goal.returns-then-look
returns-then-look c =
    let f = integrand_of c.args.weights.now in
    let ys = c.args.parts.now in
    let l = c.loop-n in
    let small = ap (λ (k : Look). le k.error tolerance) (sym c.survey-look.ensures) ∙ c.if-look.true in
    let e = is-done f c.args.lo c.args.hi ys l.n (omega arith) (Ok (sums_of (look_of l.parts l.n) l.tally)) l.parts (turn-small f c.args.lo c.args.hi ys l.n (omega arith) l.tally l.parts l.invariant.worked (omega arith) small) in
    record { value = ap Ok (c.sums.ensures ∙ ap (λ (k : Look). sums_of k l.tally) c.survey-look.ensures) ∙ e.value; parts_after = e.parts_after }

pub returns-then-not-are_finite : goal.returns-then-not-are_finite
returns-then-not-are_finite c =
    let f = integrand_of c.args.weights.now in
    let ys = c.args.parts.now in
    let l = c.loop-n in
    let large = ap (λ (k : Look). le k.error tolerance) (sym c.survey-look.ensures) ∙ c.if-look.false in
    let wrong = halves_of f c.args.lo c.args.hi ys c.survey-look.result (look_of l.parts l.n) c.survey-look.ensures c.bisect-h.result.left c.bisect-h.result.right c.bisect-h.ensures.left c.bisect-h.ensures.right false (sym c.are_finite.ensures ∙ c.if-not-are_finite.true) in
    is-done f c.args.lo c.args.hi ys l.n (omega arith) broken l.parts (turn-broken f c.args.lo c.args.hi ys l.n (omega arith) l.tally l.parts l.invariant.worked (omega arith) large wrong)

pub split-requires : goal.split-requires
split-requires c =
    let l = c.loop-n in
    let len : length l.parts ≡ length c.args.parts.now = l.auto.parts ∙ length-set c.args.parts.now 0 c.gk15-whole.result in
    let low : c.survey-look.result.worst < l.n = subst (λ (k : Look). k.worst < l.n) (sym c.survey-look.ensures) (worst-below l.parts l.n (omega arith)) in
    (omega arith, omega (arith, low, len, c.requires), omega (arith, len, c.requires))

pub loop-n-preserved : goal.loop-n-preserved
loop-n-preserved c =
    let f = integrand_of c.args.weights.now in
    let ys = c.args.parts.now in
    let l = c.loop-n in
    let look = look_of l.parts l.n in
    let large = ap (λ (k : Look). le k.error tolerance) (sym c.survey-look.ensures) ∙ c.if-look.false in
    let fine = halves_of f c.args.lo c.args.hi ys c.survey-look.result (look_of l.parts l.n) c.survey-look.ensures c.bisect-h.result.left c.bisect-h.result.right c.bisect-h.ensures.left c.bisect-h.ensures.right true (sym c.are_finite.ensures ∙ c.if-not-are_finite.false) in
    let next = turn-halved f c.args.lo c.args.hi ys l.n (omega arith) l.tally l.parts l.invariant.worked (omega arith) large fine in
    let split : split_of l.parts l.n look.worst (left_half f look.greatest) (right_half f look.greatest) ≡ c.split.new.parts =
    ap (λ (k : Look). split_of l.parts l.n k.worst (left_half f k.greatest) (right_half f k.greatest)) (sym c.survey-look.ensures)
    ∙ ap₂ (λ (p q : Part). split_of l.parts l.n c.survey-look.result.worst p q) (sym c.bisect-h.ensures.left) (sym c.bisect-h.ensures.right) ∙ sym c.split.ensures in
    let back : l.n + 1 - 1 ≡ l.n = omega arith in
    record {
      bisections = ap (λ (t : Tally). t.bisections + 1) c.with_bisection-tally.ensures ∙ ap (λ (n : ℕ). n + 1) l.invariant.bisections;
      evaluations = ap (λ (t : Tally). t.evaluations + rule_size) c.with_bisection-tally.ensures ∙ omega (arith, l.invariant.evaluations);
      worked = ap (after f c.args.lo c.args.hi ys) back ∙ next ∙ ap₂ (λ (t : Tally) (ps : List Part). work (going t) ps) (sym c.with_bisection-tally.ensures) split;
    }

pub returns : goal.returns
returns c =
    let f = integrand_of c.args.weights.now in
    let ys = c.args.parts.now in
    let l = c.loop-n in
    let all : l.n ≡ most_parts = omega (arith, l.auto.n-end, c.loop-n-test.false) in
    let e = is-done f c.args.lo c.args.hi ys l.n (omega arith) (Ok (sums_of (look_of l.parts l.n) l.tally)) l.parts (turn-full f c.args.lo c.args.hi ys l.n (omega arith) l.tally l.parts l.invariant.worked (omega arith)) in
    record { value = ap Ok (c.sums-2.ensures ∙ ap (λ (k : Look). sums_of k l.tally) (c.survey.ensures ∙ ap (look_of l.parts) (sym all))) ∙ e.value; parts_after = e.parts_after }
