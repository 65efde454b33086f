use Rattle.std.proofs.Common.{rules}
use Prim.Native.Nat.{ℕ, ◌≤◌, ◌<◌}
use native.Mathlib.Omega.{arith}
use mathlib.Core.List.{List, ◌++◌}
use mathlib.Core.Path.{◌≡◌, ap, ◌∙◌}
use lib.ListN.{length, take, drop, length-take}
use lib.Ieee.{Float}
use Rattle.floats.specs.Words.{◌‼◌}
use Rattle.floats.specs.Tables.{table}
use Rattle.floats.specs.Matrix.{entry, whole}
use Rattle.floats.proofs.TableLaws.{is-table}
use Rattle.tridiagonal.specs.Bands.{coupling}
use Rattle.tridiagonal.proofs.bands.Goals as goal

-- the first n numbers made anew, the rest as it was
banded : (f : ℕ → Float) (n : ℕ) (l r : List Float) → n ≤ length l → length r ≡ length (take n l) → ((j : ℕ) → j < length (take n l) → r ‼ j ≡ f j) → r ++ drop n l ≡ table f n ++ drop n l
banded f n l r h e g = let w : length (take n l) ≡ n = simp length-take (omega arith) in ap (λ r. r ++ drop n l) (is-table f (take n l) r e g ∙ ap (table f) w)

pub returns : goal.returns
returns c = let args = c.args in
    let a = whole args.n args.a.now in
    record {
      d_after = banded (λ i. entry args.n a i i) args.n args.d.now c.update.new.row c.requires.1 c.update.ensures.kept (λ j h. search (rules, c.update.ensures.each j h));
      e_after = banded (coupling args.n a) args.n args.e.now c.update-2.new.row c.requires.2 c.update-2.ensures.kept (λ j h. search (rules, c.update-2.ensures.each j h));
    }
