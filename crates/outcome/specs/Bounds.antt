-- What is proved of p by the normal law (proofs/Bounds.antt). A value is lib.Ieee's: `nan`, `inf s` or `fin s m e`, negative where s is true.
-- Definitions only. Assumes nothing.
use Rattle.std.specs.Prelude.{◌≡◌, true, List, ℕ, T, Float, Ok}
use Rattle.std.specs.Float.{binary64}
use Rattle.std.specs.Float.Ieee.{fits}
use Rattle.std.specs.Float.Ieee.Scale.{finite}
use Rattle.floats.specs.Words.{plus_zero, one}
use Rattle.elementary.specs.declared.NormalLaw.{NormalLaw}
use Rattle.elementary.specs.Bounds.{Within}
use Rattle.design.specs.Matrix.{Matrix}
use Rattle.design.specs.Law.{law_from, law_answer}
use Rattle.outcome.specs.P.{normal_p}
use Rattle.outcome.specs.declared.Alternative.{Alternative}

-- Of a law that serves, p at a finite statistic is a number from 0 to 1, whatever the alternative.
abbrev pub PWithinOne : Type 0
PWithinOne =
    (law : NormalLaw) (d : Float) (a : Alternative) → law_answer law ≡ Ok law → T (fits binary64 law.mean) → T (fits binary64 law.variance) → finite d ≡ true
    → Within plus_zero one (normal_p law d a)

-- The law of any columns is made of binary64 values; so of each that serves p is a number from 0 to 1.
abbrev pub ColumnsPWithinOne : Type 0
ColumnsPWithinOne =
    (x : List Float) (n k : ℕ) (inverse : Matrix) (law : NormalLaw) (d : Float) (a : Alternative) → law_answer (law_from x n k inverse) ≡ Ok law → finite d ≡ true
    → Within plus_zero one (normal_p law d a)
