-- WHAT THE COLUMNS DECIDE: x is the run of k columns of n rows, and no residual comes in. Definitions only. Assumes nothing.
use Rattle.std.specs.Prelude.{ℕ, List, [], ◌∷◌, Float, Result}
use Rattle.design.specs.Matrix.{Matrix}
use Rattle.design.specs.Factor.{pivots_of}
use Rattle.design.specs.Inverse.{inverse_of}
use Rattle.design.specs.Law.{law_from, law_answer}
use Rattle.design.specs.declared.LawError.{LawError}
use Rattle.elementary.specs.declared.NormalLaw.{NormalLaw}
use Rattle.eigen.specs.declared.Numbers.{Numbers}
use Rattle.eigen.specs.Spectrum.{spectrum_of, kept_numbers}
use Rattle.eigen.specs.declared.SpectrumError.{SpectrumError}
use Rattle.outcome.specs.Refusals.{pivots_refusal, inverse_refusal}
use Rattle.outcome.specs.declared.Refusal.{Refusal}

-- what they are checked for, in order: 11, and 13 at stage 1
abbrev pub design_checks : List Float → ℕ → ℕ → List Refusal
design_checks x n k = pivots_refusal (pivots_of x n k) ∷ inverse_refusal k (inverse_of x n k) ∷ []

-- the eigenvalues of M A: how many are kept and what they took, and which they are; and the normal law. A sheet needs the one or the other, or none
pub record Layout : Type 0 where
  pub spectrum : Result Numbers SpectrumError
  pub kept : List Float
  pub law : Result NormalLaw LawError

-- whatever is taken for (X'X)^-1; and with it
abbrev pub layout_from : List Float → ℕ → ℕ → Matrix → Layout
layout_from x n k inverse = record { spectrum = spectrum_of x inverse n k; kept = kept_numbers x inverse n k; law = law_answer (law_from x n k inverse) }

abbrev pub layout_of : List Float → ℕ → ℕ → Layout
layout_of x n k = layout_from x n k (inverse_of x n k)
