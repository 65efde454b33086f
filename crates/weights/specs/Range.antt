-- The range of the integral over s = ln u, cut where what is left out is below a quarter of 1e-11 on either side.
-- Runs are lists of binary64 values, each operation is rounded once (floats' Words), ln is elementary's. Definitions only. Assumes nothing.
use Rattle.std.specs.Prelude.{List, length, pos, Float}
use Rattle.std.specs.Float.{binary64}
use Rattle.std.specs.Float.Ieee.{of_int}
use Rattle.floats.specs.Words.{◌⊖◌, ◌⊗◌, ◌⊘◌, ◌‼◌, float, two}
use Rattle.floats.specs.Signs.{abs_of}
use Rattle.floats.specs.Sums.{sum_of}
use Rattle.elementary.specs.Patterns.{half}
use Rattle.elementary.specs.Ln.{ln_of}

-- 2.5e-12, the part of the integral that each cut may leave out
abbrev pub cut : Float
cut = float 0x3d85fd7fe1796495

-- half the sum of the weights' sizes, and half the sum of their logarithms
abbrev pub half_abs_sum : List Float → Float
half_abs_sum ws = half ⊗ sum_of (length ws) (λ t. abs_of (ws ‼ t))

abbrev pub half_log_prod : List Float → Float
half_log_prod ws = half ⊗ sum_of (length ws) (λ t. ln_of (abs_of (ws ‼ t)))

-- the integral from 0 to u is at most u times half the sum of the sizes
unfoldable pub low_end : List Float → Float
low_end ws = ln_of (cut ⊘ half_abs_sum ws)

-- 2 / m, m the number of weights
abbrev pub two_by_count : List Float → Float
two_by_count ws = two ⊘ of_int binary64 (pos (length ws))

-- the integral from u on is at most 2 / m u^(-m/2) / prod |w|^(1/2)
unfoldable pub high_end : List Float → Float
high_end ws = two_by_count ws ⊗ (ln_of (two_by_count ws) ⊖ ln_of cut ⊖ half_log_prod ws)
