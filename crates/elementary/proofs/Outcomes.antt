-- Any two results that a promise allows are one and the same, since each promise says what the result equals. Assumes nothing.
use Rattle.std.proofs.Common.{◌≡◌}
use lib.Ieee.{Float}
use Rattle.elementary.specs.Exp.{exp_of}
use Rattle.elementary.specs.Ln.{ln_of, ln1p_of}
use Rattle.elementary.specs.Atan.{atan_of}
use Rattle.elementary.specs.Sin.{sin_of}
use Rattle.elementary.specs.Tails.{lower_tail, upper_tail}
use Rattle.elementary.specs.declared.NormalLaw.{NormalLaw}

-- r and s are both what the definition gives
module _ (r s x : Float) where
  pub one-exp : r ≡ exp_of x → s ≡ exp_of x → r ≡ s
  one-exp p q = cc

  pub one-ln : r ≡ ln_of x → s ≡ ln_of x → r ≡ s
  one-ln p q = cc

  pub one-ln-1p : r ≡ ln1p_of x → s ≡ ln1p_of x → r ≡ s
  one-ln-1p p q = cc

  pub one-atan : r ≡ atan_of x → s ≡ atan_of x → r ≡ s
  one-atan p q = cc

  pub one-sin : r ≡ sin_of x → s ≡ sin_of x → r ≡ s
  one-sin p q = cc

  pub one-lower-tail : (law : NormalLaw) → r ≡ lower_tail law x → s ≡ lower_tail law x → r ≡ s
  one-lower-tail law p q = cc

  pub one-upper-tail : (law : NormalLaw) → r ≡ upper_tail law x → s ≡ upper_tail law x → r ≡ s
  one-upper-tail law p q = cc
