-- The eigenvalues take sweeps alone: of the tally the QL step changes nothing else, and a spectrum's work is the QL step's. Assumes nothing.
use mathlib.Core.Path.{◌≡◌, refl, ◌∙◌, subst}
use mathlib.Core.Bool.{Bool, true, false, cond}
use Prim.Native.Nat.{ℕ, zero, suc}
use mathlib.Core.List.{List}
use lib.Dec.{eqb}
use lib.Ieee.{Float}
use Rattle.std.specs.Prelude.{Option, Some, None, Result, Ok, Err}
use Rattle.floats.specs.Count.{no_work, one_sweep}
use Rattle.floats.specs.Search.{first_bad}
use Rattle.floats.specs.declared.tally.Tally.{Tally}
use Rattle.projection.specs.Projection.{mam_of}
use Rattle.tridiagonal.specs.Reflection.{tridiagonal_of}
use Rattle.tridiagonal.specs.Bands.{diagonal_of, couplings_of}
use Rattle.ql.specs.Sweep.{block_end, sweep_of}
use Rattle.ql.specs.Ql.{most_sweeps, Worked, settled, ql_of}
use Rattle.eigen.specs.Spectrum.{bands_worked, bands_stuck, worked_of, numbers_of, kept_by, delivered_of, spectrum_by, spectrum_of}
use Rattle.eigen.specs.declared.Numbers.{Numbers}
use Rattle.eigen.specs.declared.SpectrumError.{SpectrumError}

-- ---- the QL step only sweeps

abbrev Beside : Tally → Tally → Type 0
Beside t w = (t.bisections ≡ w.bisections) × (t.evaluations ≡ w.evaluations)

turn-only : (n l f : ℕ) (d e : List Float) (w : Tally) → Beside (settled n l f d e w).work w
unfolding settled
turn-only n l zero d e w = (refl, refl)
turn-only n l (suc f) d e w =
    go (eqb m l) (turn-only n l f (sweep_of l m d e).diagonal (sweep_of l m d e).coupling (one_sweep w))
  where
    m : ℕ
    m = block_end n d e l

    more : Worked
    more = settled n l f (sweep_of l m d e).diagonal (sweep_of l m d e).coupling (one_sweep w)

    go : (b : Bool) → Beside more.work w → Beside (cond b (record { diagonal = d; coupling = e; work = w }) more).work w
    go true h = (refl, refl)
    go false h = h

-- the bisections and the evaluations of the tally stay
pub only-sweeps : (n k : ℕ) (d e : List Float) (w : Tally) → ((ql_of n k d e w).work.bisections ≡ w.bisections) × ((ql_of n k d e w).work.evaluations ≡ w.evaluations)
unfolding ql_of
only-sweeps n zero d e w = (refl, refl)
only-sweeps n (suc k) d e w =
    let b = ql_of n k d e w in
    let t = turn-only n k most_sweeps b.diagonal b.coupling b.work in
    let h = only-sweeps n k d e w in
    (t.0 ∙ h.0, t.1 ∙ h.1)

-- ---- and so does the spectrum

abbrev Swept : Result Numbers SpectrumError → Type 0
Swept (Err why) = Unit
Swept (Ok s) = (s.work.bisections ≡ 0) × (s.work.evaluations ≡ 0)

worked-swept : (n : ℕ) (b : List Float) → Beside (worked_of n b).work no_work
unfolding bands_worked
worked-swept n b = let a = tridiagonal_of n b in only-sweeps n n (diagonal_of n a) (couplings_of n a) no_work

delivered-swept : (n k : ℕ) (b : List Float) → Swept (delivered_of n k b)
unfolding delivered_of
delivered-swept n k b = go (first_bad (numbers_of n b))
  where
    go : (f : Option ℕ) → Swept (kept_by f n k (numbers_of n b) (worked_of n b).work (bands_stuck n (tridiagonal_of n b)))
    go (Some t) = tt
    go None = worked-swept n b

spectrum-swept : (x : List Float) (inverse : List (List Float)) (n k : ℕ) → Swept (spectrum_of x inverse n k)
unfolding spectrum_of
spectrum-swept x inverse n k = go (first_bad (mam_of x inverse n k))
  where
    go : (f : Option ℕ) → Swept (spectrum_by f n k (mam_of x inverse n k))
    go (Some t) = tt
    go None = delivered-swept n k (mam_of x inverse n k)

-- ONLY SWEEPS: the eigenvalues take no bisection and no evaluation
pub kept-swept : (x : List Float) (inverse : List (List Float)) (n k : ℕ) (s : Numbers) → spectrum_of x inverse n k ≡ Ok s → (s.work.bisections ≡ 0) × (s.work.evaluations ≡ 0)
kept-swept x inverse n k s h = subst Swept h (spectrum-swept x inverse n k)
