-- The sum of squared differences as a fold over the run side by side with itself from its second number on. Assumes nothing.
use Rattle.std.proofs.Common.{◌≡◌, ℕ, ◌+◌, ◌-◌, ◌≤◌, List, length, get_or, Float, refl, ap, ◌∙◌, arith}
use Rattle.std.proofs.lemmas.Slice.Zip.{get_or-zip, length-zip}
use Rattle.std.specs.List.{fold, zip}
use Rattle.std.specs.Float.{nan}
use Rattle.floats.specs.Words.{◌⊕◌, ◌⊖◌, ◌‼◌, minus_zero, square_of}
use Rattle.floats.specs.Sums.{sum_of}
use Rattle.floats.specs.Tables.{part}
use Rattle.floats.proofs.FoldLaws.{fold-sum}
use Rattle.floats.proofs.ListLaws.{sum_same, length_part, get_d_part}
use Rattle.autocorrelation.specs.Statistic.{differences}

abbrev pub later : List Float → List Float
later e = part 1 (length e) e

pub fold-differences : (e : List Float) → 1 ≤ length e → fold (λ s p. s ⊕ square_of (p.1 ⊖ p.0)) minus_zero (zip e (later e)) ≡ differences e
fold-differences e h =
    let l : length (later e) ≡ length e - 1 = length_part e {a = 1} {e = length e} h (omega arith) in
    let n : length (zip e (later e)) ≡ length e - 1 = omega (arith, length-zip e (later e), l) in
    fold-sum {A = Float × Float} (λ p. square_of (p.1 ⊖ p.0)) (nan, nan) (zip e (later e))
    ∙ ap (λ (k : ℕ). sum_of k (λ t. square_of ((get_or (zip e (later e)) t (nan, nan)).1 ⊖ (get_or (zip e (later e)) t (nan, nan)).0))) n
    ∙ sum_same (length e - 1) _ _ (λ t h. let p = get_or-zip e (later e) t (nan, nan) (omega arith) (omega arith) in
    let q : later e ‼ t ≡ e ‼ (t + 1) = get_d_part e {a = 1} {e = length e} (omega arith) (omega arith) t nan (omega arith) ∙ ap (λ (k : ℕ). e ‼ k) (omega arith) in rw (p, q) refl)
