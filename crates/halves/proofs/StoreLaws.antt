-- Numbers stored a few at a time into a run that is being filled. Assumes nothing.
use Prim.Native.Nat.{ℕ, zero, suc, ◌+◌, ◌-◌}
use native.Mathlib.Omega.{arith}
use mathlib.Core.Path.{◌≡◌, refl, sym}
use mathlib.Core.List.{List, [], ◌∷◌, ◌++◌, append-nil, append_assoc}
use lib.ListN.{drop}
use lib.Seq.{take_at, drop_at, drop-drop}
use lib.Ieee.{Float}
use Rattle.floats.specs.Tables.{table, with_part}
use Rattle.floats.proofs.RowLaws.{filled}
use Rattle.floats.proofs.TableLaws.{length-table}

table-group : (f : ℕ → Float) (t k : ℕ) → table f (t + k) ≡ table f t ++ table (λ s. f (t + s)) k
unfolding table
table-group f t zero = let z : t + 0 ≡ t = omega arith in rw z (sym (append-nil (table f t)))
table-group f t (suc k) = let z : t + suc k ≡ suc (t + k) = omega arith in rw (z, table-group f t k, append_assoc)

-- the next k numbers of a run that is being filled, stored as a part of it
pub filled-group : (f : ℕ → Float) (p ys : List Float) (t e k : ℕ) → e ≡ t + k → ys ≡ table (λ s. f (t + s)) k → with_part t e (filled f t p) ys ≡ filled f e p
filled-group f p ys t e k q y =
    let z : t + k - t ≡ k = omega arith in
    rw (q, y, z, take_at (table f t) (drop t p) t (length-table f t), drop_at (table f t) (drop t p) t (length-table f t), table-group f t k, append_assoc, drop-drop)

-- eight numbers are the table of them
pub eight-listed : (f : ℕ → Float) → f 0 ∷ f 1 ∷ f 2 ∷ f 3 ∷ f 4 ∷ f 5 ∷ f 6 ∷ f 7 ∷ [] ≡ table f 8
unfolding table
eight-listed f = refl
