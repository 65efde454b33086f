-- Any two outcomes that a promise of this crate allows are one and the same: each promise says what its result equals. Assumes nothing.
use mathlib.Core.Path.{◌≡◌}
use mathlib.Core.Bool.{Bool}
use mathlib.Core.List.{List}
use Prim.Native.Nat.{ℕ}
use lib.ListN.{length}
use lib.Ieee.{Float}
use Rattle.floats.specs.Words.{◌‼◌}
use Rattle.floats.specs.Tables.{table}
use Rattle.elementary.specs.declared.NormalLaw.{NormalLaw}
use Rattle.columns.proofs.Single.{both}
use Rattle.design.specs.Matrix.{Matrix, finite_matrix}
use Rattle.design.specs.Factor.{pivots_of, factor_of, rows_made}
use Rattle.design.specs.Inverse.{inverse_from}
use Rattle.design.specs.Difference.{difference_at}
use Rattle.design.specs.Law.{law_from, law_answer}
use Rattle.std.specs.Prelude.{Result}
use Rattle.design.specs.declared.FailedPivot.{FailedPivot}
use Rattle.design.specs.declared.LawError.{LawError}

-- the pivot answer, and what the lent matrix holds at the end
pub pivots-single : (x : List Float) (n k : ℕ) (r s : Result (Unit {0}) FailedPivot) → r ≡ pivots_of x n k → s ≡ pivots_of x n k → r ≡ s
pivots-single x n k r s = both

pub factor-single : (x : List Float) (n k : ℕ) (l m : Matrix) → l ≡ factor_of x n (rows_made k (pivots_of x n k)) → m ≡ factor_of x n (rows_made k (pivots_of x n k)) → l ≡ m
factor-single x n k l m = both

pub inverse-single : (l : Matrix) (k : ℕ) (r s : Matrix) → r ≡ inverse_from l k → s ≡ inverse_from l k → r ≡ s
inverse-single l k r s = both

pub finite-single : (a : Matrix) (k : ℕ) (r s : Bool) → r ≡ finite_matrix k a → s ≡ finite_matrix k a → r ≡ s
finite-single a k r s = both

-- what the lent run holds at the end
pub difference-single : (v a b : List Float) → a ≡ table (difference_at (λ t. v ‼ t) (length v)) (length v) → b ≡ table (difference_at (λ t. v ‼ t) (length v)) (length v) → a ≡ b
difference-single v a b = both

pub law-single : (x : List Float) (n k : ℕ) (inverse : Matrix) (r s : NormalLaw) → r ≡ law_from x n k inverse → s ≡ law_from x n k inverse → r ≡ s
law-single x n k inverse r s = both

pub law-answer-single : (law : NormalLaw) (r s : Result NormalLaw LawError) → r ≡ law_answer law → s ≡ law_answer law → r ≡ s
law-answer-single law r s = both
