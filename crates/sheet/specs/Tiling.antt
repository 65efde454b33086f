-- What it means that a file is accepted, and that it is refused, said apart from how `read_file` finds out; proofs/Theorems.antt shows that they agree.
-- Entries and bodies are those of specs/Contents.antt. Definitions only. Assumes nothing.
use Rattle.std.specs.Prelude.{ℕ, ◌+◌, ◌-◌, ◌≤◌, ◌<◌, ◌≡◌, true, false, List, [], ◌∷◌, ◌++◌, length}
use Rattle.sheet.specs.Contents.{largest_file, most_entries, count_of, entry_place, entry_of, spare_of, body_start, body_end, position_of}
use Rattle.sheet.specs.Rising.{Rising}
use Rattle.sheet.specs.Reading.{meets}
use Rattle.sheet.specs.declared.file.FileRefusal.{FileRefusal}

-- codes, positions byte and spare bytes of entry i are as they should be
abbrev pub Known : List ℕ → ℕ → Type 0
Known file i = ((entry_of file i).alternative ≤ 2) × ((entry_of file i).choice ≤ 2) × ((entry_of file i).positions ≤ 1) × (spare_of file i ≡ 0)

-- a file of n entries, whose contents and bodies tile it: the first body begins where the contents end, each other where the one before it ends, and the last ends with the file; and the positions of each entry that has them rise
pub record Tiled (file : List ℕ) (n : ℕ) : Type 0 where
  pub least : 4 ≤ length file
  pub most : length file ≤ largest_file
  pub count : n ≡ count_of file
  pub some : 1 ≤ n
  pub few : n ≤ most_entries
  pub contents : entry_place n ≤ length file
  pub known : (i : ℕ) → i < n → Known file i
  pub first : body_start (entry_of file 0) ≡ entry_place n
  pub next : (i : ℕ) → i + 1 < n → body_start (entry_of file (i + 1)) ≡ body_end (entry_of file i)
  pub within : (i : ℕ) → i < n → body_end (entry_of file i) ≤ length file
  pub rising : (i : ℕ) → i < n → (entry_of file i).positions ≡ 1 → Rising (position_of file (entry_of file i)) (entry_of file i).rows
  pub last : body_end (entry_of file (n - 1)) ≡ length file

-- the file meets none of these refusals
abbrev pub NoneMet : List ℕ → List FileRefusal → Type 0
NoneMet file [] = Unit
NoneMet file (f ∷ fs) = (meets file f ≡ false) × NoneMet file fs

-- of the refusals fs, in their order, the file meets f and none before it
pub record MetFirst (file : List ℕ) (fs : List FileRefusal) (f : FileRefusal) : Type 0 where
  pub before : List FileRefusal
  pub after : List FileRefusal
  pub order : fs ≡ before ++ (f ∷ after)
  pub none : NoneMet file before
  pub met : meets file f ≡ true
