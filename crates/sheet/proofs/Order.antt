-- The refusals in their order, read entry by entry: what is wrong with an entry decides, and a sound one leaves the decision to those after it. Assumes nothing.
use Prim.Native.Nat.{ℕ, suc, ◌+◌}
use mathlib.Core.Path.{◌≡◌, refl, sym}
use mathlib.Core.Bool.{Bool, true, false, cond}
use mathlib.Core.List.{List}
use lib.ListN.{length}
use borrow.Author.Tests.{eq-eqb, ne_eqb}
use Rattle.floats.specs.Tables.{table}
use Rattle.sheet.specs.Contents.{count_of, entry_of}
use native.Mathlib.Omega.{arith}
use Rattle.sheet.specs.Reading.{sheets, refused, due_at, meets, refusals_from, first_met, entry_fault}
use Rattle.sheet.specs.declared.file.FileRefusal.{FileRefusal}
use Rattle.sheet.specs.declared.file.FileRefusal.TheVariants.{Codes, Offset, PastEnd, NotRising, LeftOver}
use Rattle.std.specs.Prelude.{Ok, Err, Result, ⊤}

abbrev sound : Result ⊤ FileRefusal
sound = Ok tt

apart : {f : FileRefusal} → sound ≡ Err f → ⊥
apart q = let z : ◌≡◌ {A = ℕ} 0 1 = cc in omega arith

module _ (file : List ℕ) (i left : ℕ) where
  pub met-decides : {f : FileRefusal} → entry_fault file i ≡ Err f → first_met file (refusals_from i (suc left)) ≡ refused f
  unfolding refusals_from first_met
  met-decides {f} h = go (meets file (Codes i)) (meets file (Offset i)) (meets file (PastEnd i)) (meets file (NotRising i)) h
    where
      go : (a b c d : Bool) → cond a (Err (Codes i)) (cond b (Err (Offset i)) (cond c (Err (PastEnd i)) (cond d (Err (NotRising i)) sound))) ≡ Err f
          → cond a (refused (Codes i)) (cond b (refused (Offset i)) (cond c (refused (PastEnd i)) (cond d (refused (NotRising i)) (first_met file (refusals_from (i + 1) left))))) ≡ refused f
      go true b c d h = cc
      go false true c d h = cc
      go false false true d h = cc
      go false false false true h = cc
      go false false false false h = absurd (apart h)

  pub sound-passes : entry_fault file i ≡ sound → first_met file (refusals_from i (suc left)) ≡ first_met file (refusals_from (i + 1) left)
  unfolding refusals_from first_met
  sound-passes h = go (meets file (Codes i)) (meets file (Offset i)) (meets file (PastEnd i)) (meets file (NotRising i)) h
    where
      go : (a b c d : Bool) → cond a (Err (Codes i)) (cond b (Err (Offset i)) (cond c (Err (PastEnd i)) (cond d (Err (NotRising i)) sound))) ≡ sound
          → cond a (refused (Codes i)) (cond b (refused (Offset i)) (cond c (refused (PastEnd i)) (cond d (refused (NotRising i)) (first_met file (refusals_from (i + 1) left))))) ≡ first_met file (refusals_from (i + 1) left)
      go true b c d h = absurd (apart (sym h))
      go false true c d h = absurd (apart (sym h))
      go false false true d h = absurd (apart (sym h))
      go false false false true h = absurd (apart (sym h))
      go false false false false h = refl

-- past the last entry: a body is due where the file ends
module _ (file : List ℕ) (i : ℕ) where
  pub left-over-decides : (due_at file (count_of file) ≡ length file → ⊥) → first_met file (refusals_from i 0) ≡ refused LeftOver
  unfolding refusals_from first_met meets
  left-over-decides h = rw (ne_eqb _ _ h)

  pub end-accepts : due_at file (count_of file) ≡ length file → first_met file (refusals_from i 0) ≡ sheets (table (entry_of file) (count_of file))
  unfolding refusals_from first_met meets
  end-accepts h = rw (eq-eqb _ _ h)
