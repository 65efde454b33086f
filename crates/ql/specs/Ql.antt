-- The implicit QL algorithm: each index in turn, with a limit of sweeps an index. Definitions only. Assumes nothing.
use Rattle.std.specs.Prelude.{ℕ, zero, suc, ◌-◌, Bool, false, not, ◌||◌, cond, List, eqb, Float}
use Rattle.floats.specs.Count.{one_sweep}
use Rattle.floats.specs.declared.tally.Tally.{Tally}
use Rattle.ql.specs.Sweep.{block_end, sweep_of}

-- the limit
abbrev pub most_sweeps : ℕ
most_sweeps = 60

-- the matrix, and the work done on it
pub record Worked : Type 0 where
  pub diagonal : List Float
  pub coupling : List Float
  pub work : Tally

-- index l's turn, when f sweeps may still be made: none where its block is l alone, else a sweep of its block and on
unfoldable pub settled : ℕ → ℕ → ℕ → List Float → List Float → Tally → Worked
settled n l zero d e w = record { diagonal = d; coupling = e; work = w }
settled n l (suc f) d e w =
    let m : ℕ = block_end n d e l in
    cond (eqb m l) (record { diagonal = d; coupling = e; work = w })
    (settled n l f (sweep_of l m d e).diagonal (sweep_of l m d e).coupling (one_sweep w))

-- the turns of the first k indexes
unfoldable pub ql_of : ℕ → ℕ → List Float → List Float → Tally → Worked
ql_of n zero d e w = record { diagonal = d; coupling = e; work = w }
ql_of n (suc l) d e w =
    let before : Worked = ql_of n l d e w in
    settled n l most_sweeps before.diagonal before.coupling before.work

-- how many sweeps index l's turn made
abbrev pub turn_sweeps : ℕ → ℕ → List Float → List Float → Tally → ℕ
turn_sweeps n l d e w = (ql_of n (suc l) d e w).work.sweeps - (ql_of n l d e w).work.sweeps

-- a coupling is left at index l: the block that begins there is not l alone
abbrev pub coupling_left : ℕ → List Float → List Float → ℕ → Bool
coupling_left n d e l = not (eqb (block_end n d e l) l)

-- one of the first k indexes still had a coupling left after its turn
unfoldable pub stuck_of : ℕ → ℕ → List Float → List Float → Tally → Bool
stuck_of n zero d e w = false
stuck_of n (suc l) d e w = stuck_of n l d e w || coupling_left n (ql_of n (suc l) d e w).diagonal (ql_of n (suc l) d e w).coupling l
