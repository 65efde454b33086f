-- Any two outcomes that a promise allows are one and the same, result and lent runs: of the test, and of the layers below it whose crates do not say so themselves. Each
-- promise says what its result and its runs at the end equal. Assumes nothing.
use mathlib.Core.Path.{◌≡◌, sym, ap, ◌∙◌, subst}
use mathlib.Core.List.{List, ◌++◌}
use Prim.Native.Nat.{ℕ, ◌+◌, ◌*◌}
use lib.ListN.{length, drop}
use lib.Ieee.{Float}
use Rattle.std.specs.Prelude.{Option, Result}
use Rattle.floats.specs.Matrix.{whole, half_of}
use Rattle.floats.specs.Search.{first_bad}
use Rattle.floats.specs.declared.tally.Tally.{Tally}
use Rattle.design.specs.Matrix.{Matrix}
use Rattle.outcome.specs.declared.Alternative.{Alternative}
use Rattle.projection.specs.Projection.{mam_of, residual_maker}
use Rattle.tridiagonal.specs.Reflection.{tridiagonal_of}
use Rattle.tridiagonal.specs.Bands.{diagonal_of, couplings_of}
use Rattle.ql.specs.Ql.{ql_of, stuck_of}
use Rattle.ql.specs.declared.Swept.{Swept}
use Rattle.eigen.specs.Spectrum.{spectrum_of, kept_numbers, front_of}
use Rattle.eigen.specs.declared.Numbers.{Numbers}
use Rattle.eigen.specs.declared.SpectrumError.{SpectrumError}
use Rattle.imhof.specs.Room.{laid_out}
use Rattle.imhof.specs.Imhof.{imhof_of}
use Rattle.imhof.specs.declared.Estimate.{Estimate}
use Rattle.imhof.specs.declared.ExactError.{ExactError}
use Rattle.outcome.specs.Rooms.{room_of, part_room, cleared_of}
use Rattle.dwtest.specs.Test.{test_of, touched}
use Rattle.outcome.specs.declared.Outcome.{Outcome}
use Rattle.outcome.specs.declared.Choice.{Choice}

-- two values of one thing
both : {A : Type 0} {r s t : A} → r ≡ t → s ≡ t → r ≡ s
both p q = p ∙ sym q

-- ---- `durbin_watson_test`: the result, and both rooms at the end
module _ (e x : List Float) (k : ℕ) (a : Alternative) (choice : Choice) (matrix parts : List Float) where
  abbrev pub Promised : Outcome → List Float → List Float → Type 0
  Promised r matrix_after parts_after =
      (r ≡ test_of e x k a choice (length matrix) (length parts)) ×
      (matrix_after ≡ cleared_of (touched e x k choice (length matrix) (length parts)) (room_of (length e)) matrix) ×
      (parts_after ≡ cleared_of (touched e x k choice (length matrix) (length parts)) part_room parts)

  pub one-outcome : (r s : Outcome) (m m' p p' : List Float) → Promised r m p → Promised s m' p' → (r ≡ s) × (m ≡ m') × (p ≡ p')
  one-outcome r s m m' p p' f g = (both f.0 g.0, both f.1 g.1, both f.2 g.2)

-- ---- `prob_below_zero`: the answer, and the part room
module _ (eigenvalues : List Float) (d : Float) (room : List Float) where
  abbrev pub Probable : Result Estimate ExactError → List Float → Type 0
  Probable r after = (r ≡ (imhof_of eigenvalues d).answer) × (after ≡ laid_out (imhof_of eigenvalues d).parts room)

  pub one-probability : (r s : Result Estimate ExactError) (p p' : List Float) → Probable r p → Probable s p' → (r ≡ s) × (p ≡ p')
  one-probability r s p p' f g = (both f.0 g.0, both f.1 g.1)

-- ---- `ma_eigenvalues`: the answer, the run of kept numbers, and the matrix room; `mam`: the first number that is not finite, and the room
module _ (x : List Float) (inverse : Matrix) (n k : ℕ) (run room : List Float) where
  abbrev pub Kept : Result Numbers SpectrumError → List Float → List Float → Type 0
  Kept r after held =
      (r ≡ spectrum_of x inverse n k) ×
      (after ≡ kept_numbers x inverse n k ++ drop (length (kept_numbers x inverse n k)) run) ×
      (held ≡ front_of x inverse n k ++ (half_of n (residual_maker x inverse n k) ++ drop (n * (n + 1)) room))

  pub one-spectrum : (r s : Result Numbers SpectrumError) (p p' m m' : List Float) → Kept r p m → Kept s p' m' → (r ≡ s) × (p ≡ p') × (m ≡ m')
  one-spectrum r s p p' m m' f g = (both f.0 g.0, both f.1 g.1, both f.2 g.2)

  abbrev pub Projected : Option ℕ → List Float → Type 0
  Projected r held = (r ≡ first_bad (half_of n (mam_of x inverse n k))) × (held ≡ half_of n (mam_of x inverse n k) ++ (half_of n (residual_maker x inverse n k) ++ drop (n * (n + 1)) room))

  pub one_product : (r s : Option ℕ) (m m' : List Float) → Projected r m → Projected s m' → (r ≡ s) × (m ≡ m')
  one_product r s m m' f g = (both f.0 g.0, both f.1 g.1)

-- ---- `tridiagonalize`, `bands` and `ql`
module _ (n : ℕ) (a : List Float) where
  pub one-reduction : (m m' : List Float) → m ≡ half_of n (tridiagonal_of n (whole n a)) → m' ≡ half_of n (tridiagonal_of n (whole n a)) → m ≡ m'
  one-reduction m m' = both

  module _ (d e : List Float) where
    abbrev pub Banded : List Float → List Float → Type 0
    Banded d' e' = (d' ≡ diagonal_of n (whole n a) ++ drop n d) × (e' ≡ couplings_of n (whole n a) ++ drop n e)

    pub one-bands : (p p' q q' : List Float) → Banded p q → Banded p' q' → (p ≡ p') × (q ≡ q')
    one-bands p p' q q' f g = (both f.0 g.0, both f.1 g.1)

module _ (n : ℕ) (d e : List Float) (work : Tally) where
  abbrev pub SweptTo : Swept → List Float → List Float → Type 0
  SweptTo r d' e' = (r.work ≡ (ql_of n n d e work).work) × (r.stuck ≡ stuck_of n n d e work) × (d' ≡ (ql_of n n d e work).diagonal) × (e' ≡ (ql_of n n d e work).coupling)

  pub one-sweeping : (r s : Swept) (p p' q q' : List Float) → SweptTo r p q → SweptTo s p' q' → (r ≡ s) × (p ≡ p') × (q ≡ q')
  one-sweeping r s p p' q q' f g = (same (both f.0 g.0) (both f.1 g.1), both f.2 g.2, both f.3 g.3)
    where
      same : r.work ≡ s.work → r.stuck ≡ s.stuck → r ≡ s
      same h k = subst (λ b. r ≡ record { work = s.work; stuck = b }) k (ap (λ w. record { work = w; stuck = r.stuck }) h)
