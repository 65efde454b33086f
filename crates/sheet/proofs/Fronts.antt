-- A list whose front is replaced by a table, entry by entry, and whose rest stays. Assumes nothing.
use Prim.Native.Nat.{ℕ, suc, ◌+◌, ◌<◌}
use native.Mathlib.Numerals.{add-one}
use mathlib.Core.Path.{◌≡◌}
use mathlib.Core.List.{List, [], ◌∷◌, ◌++◌, append_assoc}
use lib.ListN.{length, get_or, set, drop}
use lib.Seq.{drop-cons, set_at}
use Rattle.floats.specs.Tables.{table}
use Rattle.floats.proofs.TableLaws.{length-table}

-- one entry more of a table stored into the front of l; d is any default
pub fill_more : {A : Type 0} (d : A) (g : ℕ → A) (l : List A) (t : ℕ) → t < length l → set (table g t ++ drop t l) t (g t) ≡ table g (t + 1) ++ drop (t + 1) l
unfolding table
fill_more d g l t h = rw (add-one t, drop-cons l t d h, append_assoc (table g t) (g t ∷ []) (drop (suc t) l)) (set_at (table g t) (get_or l t d) (drop (suc t) l) (g t) t (length-table g t))
