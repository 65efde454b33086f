-- The kept eigenvalues at the front of a run are what the statistic's side is asked of. x holds k columns of n rows, i is taken for (X'X)^-1. Assumes nothing.
use mathlib.Core.Path.{◌≡◌, refl, sym}
use Prim.Native.Nat.{ℕ, ◌≤◌}
use native.Mathlib.Omega.{arith}
use mathlib.Core.List.{List, ◌++◌}
use lib.ListN.{length}
use lib.Seq.{take_at}
use lib.Ieee.{Float}
use Rattle.floats.specs.Limits.{max_rows}
use Rattle.design.specs.Matrix.{Matrix}
use Rattle.eigen.specs.Spectrum.{spectrum_of, kept_numbers}
use Rattle.std.specs.Prelude.{Result, Ok, Err}
use Rattle.eigen.specs.declared.Numbers.{Numbers}
use Rattle.eigen.specs.declared.SpectrumError.{SpectrumError}
use Rattle.eigen.proofs.SpectrumLaws.{kept-told, kept-within}
use Rattle.outcome.specs.declared.Asked.{Asked}
use Rattle.dwtest.specs.Verdict.{by_spectrum, kept_in, Counted}

module _ (x : List Float) (i : Matrix) (n k : ℕ) where
  pub counted : (s : Result Numbers SpectrumError) (run : List Float) → s ≡ spectrum_of x i n k → n ≤ length run → n ≤ max_rows → Counted s run
  counted (Err why) run e h g = tt
  counted (Ok s) run e h g = let t = (kept-told x i n k s (sym e)).0 in let w = kept-within x i n k in (omega arith, omega arith)

  pub by_front : (asked : Asked) (s : Result Numbers SpectrumError) (run rest : List Float) → s ≡ spectrum_of x i n k → run ≡ kept_numbers x i n k ++ rest
      → by_spectrum s (kept_in s run) asked ≡ by_spectrum (spectrum_of x i n k) (kept_numbers x i n k) asked
  by_front asked (Err why) run rest e f = rw (← e) refl
  by_front asked (Ok s) run rest e f = rw (← e, f, take_at (kept_numbers x i n k) rest s.count (sym (kept-told x i n k s (sym e)).0)) refl
