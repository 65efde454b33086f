-- p by an alternative, from a lower tail and from a normal law. Definitions only. Assumes nothing.
use Rattle.std.specs.Prelude.{cond, Float}
use Rattle.std.specs.Float.Ieee.{lt}
use Rattle.floats.specs.Words.{◌⊕◌, ◌⊖◌, ◌⊗◌, one, two}
use Rattle.floats.specs.Signs.{abs_of}
use Rattle.elementary.specs.declared.NormalLaw.{NormalLaw}
use Rattle.elementary.specs.Tails.{lower_tail, upper_tail}
use Rattle.outcome.specs.declared.Alternative.{Alternative}
use Rattle.outcome.specs.declared.Alternative.TheVariants.{Greater, Less, TwoSided}

-- Rust's f64::min of two numbers that are no NaN
abbrev pub smaller : Float → Float → Float
smaller x y = cond (lt y x) y x

-- p from the lower tail q: q, 1 - q, or twice the smaller
abbrev pub exact_p : Float → Alternative → Float
exact_p q Greater = q
exact_p q Less = one ⊖ q
exact_p q TwoSided = two ⊗ smaller q (one ⊖ q)

-- p of the statistic d by a law: for positive autocorrelation the lower tail, for negative the upper, and for either twice the upper tail as far above the mean as d is from it
abbrev pub normal_p : NormalLaw → Float → Alternative → Float
normal_p law d Greater = lower_tail law d
normal_p law d Less = upper_tail law d
normal_p law d TwoSided = two ⊗ upper_tail law (law.mean ⊕ abs_of (d ⊖ law.mean))
