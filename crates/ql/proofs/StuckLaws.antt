-- The mark of a coupling left, turn by turn; and when none is left: an index whose turn made fewer sweeps than it may ended because its block was itself alone. Assumes nothing.
use mathlib.Core.Path.{◌≡◌, refl, ap, ◌∙◌}
use mathlib.Core.Bool.{Bool, true, false, not, ◌||◌, cond}
use Prim.Native.Nat.{ℕ, zero, suc, ◌+◌, ◌<◌}
use native.Mathlib.Omega.{arith}
use mathlib.Core.List.{List}
use lib.Dec.{eqb}
use lib.Ieee.{Float}
use Rattle.floats.specs.Count.{one_sweep}
use Rattle.floats.specs.declared.tally.Tally.{Tally}
use Rattle.ql.specs.Sweep.{block_end, sweep_of}
use Rattle.ql.specs.Ql.{most_sweeps, Worked, settled, ql_of, turn_sweeps, coupling_left, stuck_of}

-- a look at d' and e', which are the bands after index l's turn
pub look-after : (n l : ℕ) (d e d' e' : List Float) (w : Tally) (s s' : Bool) → s' ≡ (s || coupling_left n d' e' l) → d' ≡ (settled n l most_sweeps d e w).diagonal → e' ≡ (settled n l most_sweeps d e w).coupling
    → s' ≡ (s || coupling_left n (settled n l most_sweeps d e w).diagonal (settled n l most_sweeps d e w).coupling l)
look-after n l d e d' e' w s s' h p q = h ∙ rw (p, q)

-- a turn that could have made more sweeps than it did
turn-ended : (n l f : ℕ) (d e : List Float) (w : Tally) → (settled n l f d e w).work.sweeps < w.sweeps + f → coupling_left n (settled n l f d e w).diagonal (settled n l f d e w).coupling l ≡ false
unfolding settled
turn-ended n l zero d e w h = absurd (omega arith)
turn-ended n l (suc f) d e w h =
    go (eqb m l) refl h (turn-ended n l f (sweep_of l m d e).diagonal (sweep_of l m d e).coupling (one_sweep w))
  where
    m : ℕ
    m = block_end n d e l

    more : Worked
    more = settled n l f (sweep_of l m d e).diagonal (sweep_of l m d e).coupling (one_sweep w)

    after : Bool → Worked
    after b = cond b (record { diagonal = d; coupling = e; work = w }) more

    go : (b : Bool) → eqb m l ≡ b → (after b).work.sweeps < w.sweeps + suc f → (more.work.sweeps < w.sweeps + 1 + f → coupling_left n more.diagonal more.coupling l ≡ false)
        → coupling_left n (after b).diagonal (after b).coupling l ≡ false
    go true p h k = ap not p
    go false p h k = k (omega arith)

-- FEW SWEEPS: an index whose turn made fewer sweeps than it may has no coupling left
pub few-sweeps : (n l : ℕ) (d e : List Float) (w : Tally) → turn_sweeps n l d e w < most_sweeps → coupling_left n (ql_of n (suc l) d e w).diagonal (ql_of n (suc l) d e w).coupling l ≡ false
unfolding ql_of
few-sweeps n l d e w h = let b = ql_of n l d e w in turn-ended n l most_sweeps b.diagonal b.coupling b.work (omega arith)

-- so where no turn made all that it may, no index was stuck
pub none_stuck : (n k : ℕ) (d e : List Float) (w : Tally) → ((l : ℕ) → l < k → turn_sweeps n l d e w < most_sweeps) → stuck_of n k d e w ≡ false
unfolding stuck_of
none_stuck n zero d e w h = refl
none_stuck n (suc k) d e w h = rw (none_stuck n k d e w (λ l i. h l (omega arith)), few-sweeps n k d e w (h k (omega arith))) refl
