-- The count of sweeps: an index's turn adds at most `most_sweeps` to it, all turns at most n times that, and none takes from it. Assumes nothing.
use mathlib.Core.Bool.{Bool, true, false, cond}
use Prim.Native.Nat.{ℕ, zero, suc, ◌+◌, ◌*◌, ◌≤◌}
use native.Mathlib.Omega.{arith}
use mathlib.Core.List.{List}
use lib.Dec.{eqb}
use lib.Ieee.{Float}
use Rattle.floats.specs.Count.{one_sweep}
use Rattle.floats.specs.declared.tally.Tally.{Tally}
use Rattle.ql.specs.Sweep.{block_end, sweep_of}
use Rattle.ql.specs.Ql.{most_sweeps, Worked, settled, ql_of}

pub turn-sweeps : (n l f : ℕ) (d e : List Float) (w : Tally) → (settled n l f d e w).work.sweeps ≤ w.sweeps + f
unfolding settled
turn-sweeps n l zero d e w = omega arith
turn-sweeps n l (suc f) d e w =
    go (eqb m l) (turn-sweeps n l f (sweep_of l m d e).diagonal (sweep_of l m d e).coupling (one_sweep w))
  where
    m : ℕ
    m = block_end n d e l

    more : Worked
    more = settled n l f (sweep_of l m d e).diagonal (sweep_of l m d e).coupling (one_sweep w)

    go : (b : Bool) → more.work.sweeps ≤ w.sweeps + 1 + f → (cond b (record { diagonal = d; coupling = e; work = w }) more).work.sweeps ≤ w.sweeps + suc f
    go true h = omega arith
    go false h = omega arith

pub all-sweeps : (n k : ℕ) (d e : List Float) (w : Tally) → (ql_of n k d e w).work.sweeps ≤ w.sweeps + most_sweeps * k
unfolding ql_of
all-sweeps n zero d e w = omega arith
all-sweeps n (suc k) d e w =
    let b = ql_of n k d e w in
    more (settled n k most_sweeps b.diagonal b.coupling b.work).work.sweeps b.work.sweeps w.sweeps k (turn-sweeps n k most_sweeps b.diagonal b.coupling b.work) (all-sweeps n k d e w)
  where
    more : (x y z k : ℕ) → x ≤ y + most_sweeps → y ≤ z + most_sweeps * k → x ≤ z + most_sweeps * suc k
    more x y z k p q = omega arith
