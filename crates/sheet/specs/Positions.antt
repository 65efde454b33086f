-- What the theorems say of print positions (document 02, W-202), apart from how a file is read; proofs/Positions.antt shows it. Definitions only. Assumes nothing.
use Rattle.std.specs.Prelude.{ℕ, ◌+◌, ◌*◌, ◌≡◌, false, not, ◌||◌, List, eqb, ltb}
use Rattle.floats.specs.Bits.{little_endian, float_at}
use Rattle.sheet.specs.Contents.{entry_place, entry_of, numbers_start, body_end, position_of, body_number}
use Rattle.sheet.specs.Rising.{Falls}
use Rattle.sheet.specs.Reading.{meets}
use Rattle.sheet.specs.declared.file.Entry.{Entry}
use Rattle.sheet.specs.declared.file.FileRefusal.TheVariants.{Codes, NotRising}

-- entry i has positions, and one of them is at most the one before it
abbrev pub HasFall : List ℕ → ℕ → Type 0
HasFall file i = ((entry_of file i).positions ≡ 1) × Falls (position_of file (entry_of file i)) (entry_of file i).rows

-- the entry whose body begins where e's numbers do, of the same size and codes, and without positions
abbrev pub numbers_alone : Entry → Entry
numbers_alone e = record { offset = numbers_start e; rows = e.rows; columns = e.columns; alternative = e.alternative; choice = e.choice; positions = 0 }

-- the body of entry i and its refusals are as document 01 has them: each right side is what stood there before positions, with six spare bytes
pub record AsBefore (file : List ℕ) (i : ℕ) : Type 0 where
  pub no-fall : meets file (NotRising i) ≡ false
  pub ends : body_end (entry_of file i) ≡ (entry_of file i).offset + 8 * ((entry_of file i).rows * ((entry_of file i).columns + 1))
  pub numbers : (t : ℕ) → body_number file (entry_of file i) t ≡ float_at file ((entry_of file i).offset + 8 * t)
  pub codes : meets file (Codes i) ≡ (ltb 2 (entry_of file i).alternative || (ltb 2 (entry_of file i).choice || not (eqb (little_endian 6 file (entry_place i + 10)) 0)))
