use mathlib.Core.Bool.{true, false}
use borrow.Author.Tests.{eq-eqb, ne_eqb}
use Rattle.floats.specs.Count.{one_sweep}
use Rattle.floats.specs.declared.tally.Tally.{Tally}
use Rattle.ql.specs.Sweep.{block_end, sweep_of}
use Rattle.ql.specs.Ql.{most_sweeps, settled}
use Prim.Native.Nat.{ℕ, suc, ◌+◌, ◌-◌}
use native.Mathlib.Omega.{arith}
use lib.Dec.{eqb}
use lib.Ieee.{Float}
use mathlib.Core.List.{List}
use mathlib.Core.Path.{◌≡◌, refl, ap, sym, ◌∙◌}
use Rattle.ql.proofs.Bands.settle.Goals as goal

-- a turn of which k sweeps are left: none where the block is l alone, and none where k is 0
module _ (n l m k : ℕ) (d e : List Float) (w : Tally) where
  still : k ≡ 0 → settled n l k d e w ≡ record { diagonal = d; coupling = e; work = w }
  unfolding settled
  still p = rw p refl

  alone : (f : ℕ) → k ≡ suc f → m ≡ block_end n d e l → eqb m l ≡ true → settled n l k d e w ≡ record { diagonal = d; coupling = e; work = w }
  unfolding settled
  alone f p q t = rw (p, ← q, t) refl

  swept : (f n' : ℕ) (d' e' : List Float) (w' : Tally) → k ≡ suc f → m ≡ block_end n d e l → eqb m l ≡ false → n' ≡ n → d' ≡ (sweep_of l m d e).diagonal → e' ≡ (sweep_of l m d e).coupling → w' ≡ one_sweep w
      → settled n l k d e w ≡ settled n' l f d' e' w'
  unfolding settled
  swept f n' d' e' w' p q t a b x y = rw (p, a, b, x, y, ← q, t) refl

pub returns-then-m-l : goal.returns-then-m-l
returns-then-m-l c = let loop = c.loop in
    let s = loop.self in
    let h = sym (alone s.n c.args.l c.block_end-m.result (most_sweeps - loop.counter) s.d.now s.e.now loop.tally (most_sweeps - loop.counter - 1) (omega arith) c.block_end-m.ensures.value (eq-eqb _ _ c.if-m-l.true)) ∙ loop.invariant.5 in
    record { same_runs = (loop.invariant.1, loop.invariant.2, loop.invariant.3); value = ap (λ s. s.work) h; d_after = ap (λ s. s.diagonal) h; e_after = ap (λ s. s.coupling) h }

pub loop-preserved : goal.loop-preserved
loop-preserved c = let loop = c.loop in
    let s = loop.self in
    let t = c.sweep.new.self in
    let g = c.sweep.ensures.same_runs in (
      omega arith,
      g.0 ∙ loop.invariant.1,
      g.1 ∙ loop.invariant.2,
      g.2 ∙ loop.invariant.3,
      rw c.swept-tally.ensures (omega arith),
      sym (swept s.n c.args.l c.block_end-m.result (most_sweeps - loop.counter) s.d.now s.e.now loop.tally (most_sweeps - (loop.counter + 1)) t.n t.d.now t.e.now c.swept-tally.result (omega arith) c.block_end-m.ensures.value (ne_eqb _ _ c.if-m-l.false) g.2 c.sweep.ensures.d_after c.sweep.ensures.e_after c.swept-tally.ensures) ∙ loop.invariant.5,
    )

pub returns : goal.returns
returns c = let loop = c.loop in
    let s = loop.self in
    let h = sym (still s.n c.args.l 0 (most_sweeps - loop.counter) s.d.now s.e.now loop.tally (omega arith)) ∙ loop.invariant.5 in
    record { same_runs = (loop.invariant.1, loop.invariant.2, loop.invariant.3); value = ap (λ s. s.work) h; d_after = ap (λ s. s.diagonal) h; e_after = ap (λ s. s.coupling) h }
