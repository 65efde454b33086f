-- The answer to a file, by what the file is read into. Assumes nothing.
use Prim.Native.Nat.{ℕ, ◌≤◌}
use native.Mathlib.Omega.{arith}
use mathlib.Core.Path.{◌≡◌, refl, sym, ap, ◌∙◌}
use mathlib.Core.List.{List}
use lib.ListN.{length}
use borrow.Author.Tests.{le-ltb}
use Rattle.sheet.specs.Contents.{count_of}
use Rattle.sheet.specs.Reading.{Reading, sheets, refused, read_file, check_of}
use Rattle.sheet.specs.Tiling.{Tiled}
use Rattle.sheet.specs.declared.file.FileRefusal.{FileRefusal}
use Rattle.std.specs.Prelude.{Ok, Err}
use Rattle.sheet.proofs.Theorems.{accepted-tiled, tiled-sheets}
use Rattle.lines.specs.Lines.{fronted, front_length}
use Rattle.lines.specs.Fields.{longest, file_line_of}
use Rattle.lines.proofs.LineLaws.{file-line-length}
use Rattle.answers.specs.Answer.{lent_rows, answer_by, answer_to, most_bytes}
use Rattle.answers.specs.Steps.{lines_to}
use Rattle.answers.proofs.LinesLaws.{to-length}

module _ (file : List ℕ) where
  -- an accepted file is tiled by as many entries as it says, and answered with their lines
  pub accepted-all : {n : ℕ} → check_of (read_file file) ≡ Ok n → Tiled file (count_of file)
  accepted-all {n} h = let t = accepted-tiled file n h in rw t.count at t

  pub answer-lines : Tiled file (count_of file) → answer_to file ≡ lines_to file (count_of file)
  answer-lines t = ap (answer_by lent_rows file) (tiled-sheets file (count_of file) t)

  -- a refused one with its refusal's line
  pub answer-refused : {f : FileRefusal} → check_of (read_file file) ≡ Err f → answer_to file ≡ file_line_of f
  answer-refused {f} h = go (read_file file) h
    where
      go : (r : Reading) → check_of r ≡ Err f → answer_by lent_rows file r ≡ file_line_of f
      go (sheets es) q = absurd (let z : ◌≡◌ {A = ℕ} 0 1 = cc in omega arith)
      go (refused g) q = let k : g ≡ f = cc in rw k

  -- no answer is longer than a buffer of MOST_BYTES
  pub answer-length : length (answer_to file) ≤ most_bytes
  answer-length = go (read_file file) refl
    where
      go : (r : Reading) → read_file file ≡ r → length (answer_by lent_rows file r) ≤ most_bytes
      go (sheets es) q =
          let t = accepted-all (ap check_of q) in
          let long = ap length (sym (ap (answer_by lent_rows file) q) ∙ answer-lines t) in
          omega (arith, long, t.few, to-length file (count_of file))
      go (refused f) q = omega (arith, file-line-length f)

-- a line put where there is room for the longest line is put where there is room for all
pub room-for-all : (line l : List ℕ) {r : ℕ} {out : List ℕ} → most_bytes ≤ length l → r ≡ front_length longest line l → out ≡ fronted longest line l → (r ≡ front_length most_bytes line l) × (out ≡ fronted most_bytes line l)
room-for-all line l room p q = let wide : longest ≤ length l = omega arith in rw (le-ltb _ _ room) (rw (le-ltb _ _ wide) at p, rw (le-ltb _ _ wide) at q)
