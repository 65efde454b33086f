-- Any two results that a promise of this crate allows are one and the same: each promise says what its result equals, and no function of it is lent a run. So one law serves all
-- of them; p's is written out. Assumes nothing.
use mathlib.Core.Path.{◌≡◌, sym, ◌∙◌}
use lib.Ieee.{Float}
use Rattle.elementary.specs.declared.NormalLaw.{NormalLaw}
use Rattle.outcome.specs.P.{normal_p}
use Rattle.outcome.specs.declared.Alternative.{Alternative}

pub single : {A : Type 0} (said r s : A) → r ≡ said → s ≡ said → r ≡ s
single said r s p q = p ∙ sym q

pub p-single : (law : NormalLaw) (d : Float) (a : Alternative) (r s : Float) → r ≡ normal_p law d a → s ≡ normal_p law d a → r ≡ s
p-single law d a = single (normal_p law d a)
