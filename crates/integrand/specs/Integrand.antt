-- Imhof's integrand (1961, formula 3.2) with u = e ^ s: sin(theta) / rho, theta = 1/2 sum atan(w u), ln rho = 1/4 sum ln(1 + (w u)²).
-- Runs are lists of binary64 values, each operation is rounded once (floats' Words), exp, atan, ln_1p and sin are elementary's. Definitions only. Assumes nothing.
use Rattle.std.specs.Prelude.{List, length, Float}
use Rattle.std.specs.Float.Ieee.{neg}
use Rattle.floats.specs.Words.{◌⊗◌, ◌‼◌, float, square_of}
use Rattle.floats.specs.Sums.{sum_of}
use Rattle.elementary.specs.Patterns.{half}
use Rattle.elementary.specs.Exp.{exp_of}
use Rattle.elementary.specs.Ln.{ln1p_of}
use Rattle.elementary.specs.Atan.{atan_of}
use Rattle.elementary.specs.Sin.{sin_of}

-- 1/4
abbrev pub quarter : Float
quarter = float 0x3fd0000000000000

-- theta(u) and ln rho(u)
abbrev pub theta_of : List Float → Float → Float
theta_of ws u = half ⊗ sum_of (length ws) (λ t. atan_of (ws ‼ t ⊗ u))

abbrev pub log_rho_of : List Float → Float → Float
log_rho_of ws u = quarter ⊗ sum_of (length ws) (λ t. ln1p_of (square_of (ws ‼ t ⊗ u)))

-- sin(theta) / rho at u = e ^ s
unfoldable pub integrand_of : List Float → Float → Float
integrand_of ws s = sin_of (theta_of ws (exp_of s)) ⊗ exp_of (neg (log_rho_of ws (exp_of s)))
