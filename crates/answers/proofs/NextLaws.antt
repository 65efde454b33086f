-- What a reader gives in an accepted file: an entry while some are left, then the end; and what the lines are after each. Assumes nothing.
use Prim.Native.Nat.{ℕ, ◌+◌, ◌*◌, ◌-◌, ◌≤◌, ◌<◌}
use native.Mathlib.Nat.{le_antisymm}
use native.Mathlib.Omega.{arith}
use mathlib.Core.Path.{◌≡◌, refl, sym, ◌∙◌}
use mathlib.Core.Bool.{Bool, true, false, ◌&&◌, cond}
use mathlib.Core.List.{List, ◌++◌}
use lib.Dec.{ltb, leb}
use lib.ListN.{length, take, drop, length-append}
use borrow.Author.Tests.{ltb-true, ltb-false}
use Rattle.std.specs.Prelude.{Some, None}
use Rattle.sheet.specs.Contents.{most_numbers, count_of, entry_place, entry_of, body_end}
use Rattle.sheet.specs.Reading.{next_of, one_further, NextGives}
use Rattle.sheet.specs.Tiling.{Tiled}
use Rattle.sheet.specs.declared.file.Entry.{Entry}
use Rattle.sheet.specs.declared.reader.Reader.{Reader}
use Rattle.sheet.proofs.Theorems.{reads-entry, entry_read, further-next}
use Rattle.lines.specs.Lines.{put_at, fronted, front_length}
use Rattle.lines.specs.Fields.{longest}
use Rattle.answers.specs.Answer.{lent_rows, sheet_line, most_bytes}
use Rattle.answers.specs.Steps.{Within, lines_to}
use Rattle.answers.proofs.LinesLaws.{to-more, room-left, put_next, part-put}

module _ (file : List ℕ) (i : ℕ) where
  -- where an entry is found, entry i is one of the file's
  sheet-left : {e : Entry} → next_of file i ≡ Some e → i < count_of file
  sheet-left {e} h = go (ltb i (count_of file)) refl h
    where
      go : (b : Bool) → ltb i (count_of file) ≡ b → cond (b && leb (entry_place (i + 1)) (length file)) (Some (entry_of file i)) None ≡ Some e → i < count_of file
      go true q h = ltb-true i (count_of file) q
      go false q h = absurd (let z : ◌≡◌ {A = ℕ} 0 1 = cc in omega arith)

  -- where the end is found, it is none
  end-all : Tiled file (count_of file) → next_of file i ≡ None → count_of file ≤ i
  end-all t h = go (ltb i (count_of file)) refl
    where
      go : (b : Bool) → ltb i (count_of file) ≡ b → count_of file ≤ i
      go true q = absurd (let r = reads-entry file (count_of file) t i (ltb-true i (count_of file) q) in let z : ◌≡◌ {A = ℕ} 0 1 = cc in omega arith)
      go false q = ltb-false i (count_of file) q

-- a reader is at entry k of the file, or at its end, and the lines of the entries before it stand at the front of `out`, which was l, up to `at`
pub record Put (file l : List ℕ) (reader : Reader) (k at : ℕ) (out : List ℕ) : Type 0 where
  pub same : reader.file.now ≡ file
  pub index : reader.next ≡ k
  pub below : k ≤ count_of file
  pub ends : at ≡ length (lines_to file k)
  pub gives : out ≡ put_at 0 (lines_to file k) l

module _ {file l : List ℕ} (tiled : Tiled file (count_of file)) (room : most_bytes ≤ length l) {reader after : Reader} {k at : ℕ} {out : List ℕ} (put : Put file l reader k at out) where
  -- the reader gives e: it is entry k, its body lies within the file, and its line has room
  module _ {e : Entry} (step : NextGives reader (Some e) after) where
    found : Some e ≡ next_of file k
    found = rw (put.same, put.index) at step.0

    left : k < count_of file
    left = sheet-left file k (sym found)

    pub within : Within file e
    within = let r = entry_read file (count_of file) tiled k left found refl in (r.1, r.2, r.3)

    pub line-room : at + longest ≤ length out
    line-room = let r = rw (← put.ends, ← put.gives) at (room-left file l (count_of file) k tiled.few put.below room) in omega (arith, r, left)

    -- with its line put there, the lines of one entry more stand there
    pub stepped : {r : ℕ} {ys : List ℕ} → r ≡ front_length longest (sheet_line lent_rows file k e) (take (length out - at) (drop at out)) → ys ≡ fronted longest (sheet_line lent_rows file k e) (take (length out - at) (drop at out))
        → Put file l after (k + 1) (at + r) (take at out ++ (ys ++ drop (length out - at) (drop at out)))
    stepped {r} {ys} p q =
        let same : e ≡ entry_of file k = (entry_read file (count_of file) tiled k left found refl).0 in
        let line = part-put at (sheet_line lent_rows file k e) out line-room p q in
        let few = tiled.few in
        record {
          same = rw step.1 put.same;
          index = step.2 ∙ rw put.index (further-next k (omega (arith, left)));
          below = omega (arith, left);
          ends = line.0 ∙ rw (same, put.ends, to-more file k) (sym (length-append (lines_to file k) (sheet_line lent_rows file k (entry_of file k))));
          gives = line.1 ∙ rw (same, put.ends, put.gives, to-more file k) (put_next file k l);
        }

  -- the reader is at the end: these were all
  pub finished : NextGives reader None after → (at ≡ length (lines_to file (count_of file))) × (out ≡ put_at 0 (lines_to file (count_of file)) l)
  finished step =
      let none : None ≡ next_of file k = rw (put.same, put.index) at step.0 in
      let all : k ≡ count_of file = le_antisymm put.below (end-all file k tiled (sym none)) in
      rw (← all) (put.ends, put.gives)
