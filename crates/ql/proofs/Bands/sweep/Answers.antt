use Rattle.std.specs.Prelude.{Some, None}
use mathlib.Core.Path.{◌≡◌, refl, ap, sym, ◌∙◌}
use Prim.Native.Nat.{ℕ, suc, ◌+◌, ◌-◌}
use native.Mathlib.Omega.{arith}
use mathlib.Core.List.{List}
use lib.ListN.{set}
use lib.Ieee.{Float}
use Rattle.floats.specs.Words.{◌⊖◌, ◌‼◌, plus_zero}
use Rattle.ql.specs.declared.Rotation.{Rotation}
use Rattle.ql.specs.declared.Rotated.{Rotated}
use Rattle.ql.specs.Rotation.{rotated}
use Rattle.ql.specs.Sweep.{sweep_from, sweep_of}
use Rattle.ql.proofs.Bands.sweep.Goals as goal

-- a rotation, at index j, when f are left after it
module _ (l m f j k : ℕ) (at : Rotation) (d e : List Float) (t : Rotated) (p : k ≡ suc f) (q : j ≡ l + f) (h : t ≡ rotated at (d ‼ j) (d ‼ (j + 1)) (e ‼ j)) where
  more : (next : Rotation) → t.next ≡ Some next → sweep_from l m k at d e ≡ sweep_from l m f next (set d (j + 1) t.diagonal) (set e (j + 1) t.coupling)
  unfolding sweep_from
  more next s = let g = rw q at h in rw (p, q, ← g, s) refl

  cut : t.next ≡ None → sweep_from l m k at d e ≡ record { diagonal = set d (j + 1) t.diagonal; coupling = set (set e (j + 1) t.coupling) m plus_zero }
  unfolding sweep_from
  cut s = let g = rw q at h in rw (p, q, ← g, s) refl

done : (l m k : ℕ) (at : Rotation) (d e : List Float) → k ≡ 0 → sweep_from l m k at d e ≡ record { diagonal = set d l (d ‼ l ⊖ at.p); coupling = set (set e l at.g) m plus_zero }
unfolding sweep_from
done l m k at d e p = rw p refl

pub loop-i-init : goal.loop-i-init
unfolding sweep_of
loop-i-init c = (omega arith, omega arith, refl, refl, refl, rw c.shift.ensures refl)

pub returns-in_default : goal.returns-in_default
returns-in_default c = let loop = c.loop-i in
    let l = c.args.l in
    let h = sym (cut l c.args.m (loop.i - 1 - l) (loop.i - 1) (loop.i - l) loop.at loop.self.d.now loop.self.e.now c.rotate-turn.result (omega arith) (omega arith) c.rotate-turn.ensures c.in_default.is) ∙ loop.invariant.5 in
    record { same_runs = (loop.invariant.2, loop.invariant.3, loop.invariant.4); d_after = ap (λ s. s.diagonal) h; e_after = ap (λ s. s.coupling) h }

pub loop-i-preserved : goal.loop-i-preserved
loop-i-preserved c = let loop = c.loop-i in
    let l = c.args.l in
    (omega arith, omega arith, loop.invariant.2, loop.invariant.3, loop.invariant.4, sym (more l c.args.m (loop.i - 1 - l) (loop.i - 1) (loop.i - l) loop.at loop.self.d.now loop.self.e.now c.rotate-turn.result (omega arith) (omega arith) c.rotate-turn.ensures _ c.in-Some.is) ∙ loop.invariant.5)

pub returns : goal.returns
returns c = let loop = c.loop-i in
    let h = sym (done c.args.l c.args.m (loop.i - c.args.l) loop.at loop.self.d.now loop.self.e.now (omega arith)) ∙ loop.invariant.5 in
    record { same_runs = (loop.invariant.2, loop.invariant.3, loop.invariant.4); d_after = ap (λ s. s.diagonal) h; e_after = ap (λ s. s.coupling) h }
