-- The work tally: QL sweeps, bisections, evaluations of the integrand. Definitions only. Assumes nothing.
use Rattle.std.specs.Prelude.{ℕ, ◌+◌}
use Rattle.floats.specs.declared.tally.Tally.{Tally}

-- nothing done yet
abbrev pub no_work : Tally
no_work = record { sweeps = 0; bisections = 0; evaluations = 0 }

-- one sweep more
abbrev pub one_sweep : Tally → Tally
one_sweep t = record { sweeps = t.sweeps + 1; bisections = t.bisections; evaluations = t.evaluations }

-- one bisection more
abbrev pub one_bisection : Tally → Tally
one_bisection t = record { sweeps = t.sweeps; bisections = t.bisections + 1; evaluations = t.evaluations }

-- k evaluations more
abbrev pub evaluated : ℕ → Tally → Tally
evaluated k t = record { sweeps = t.sweeps; bisections = t.bisections; evaluations = t.evaluations + k }
