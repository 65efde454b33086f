-- Document 01's whole case, worked out by the definitions themselves: its 164 bytes, what they are read into, damaged copies; and a file with positions. Assumes nothing.
use Prim.Native.Nat.{ℕ, zero, suc, ◌/◌, ◌%◌}
use mathlib.Core.Path.{◌≡◌, refl}
use mathlib.Core.List.{List, [], ◌∷◌, ◌++◌, map}
use lib.ListN.{length, take, set}
use Rattle.floats.specs.Words.{float}
use Rattle.floats.specs.Bits.{little_endian}
use Rattle.floats.specs.Tables.{table}
use Rattle.floats.specs.Search.{first_where}
use Rattle.sheet.specs.Contents.{entry_of, residuals_of, columns_of, read_count, read_into}
use Rattle.sheet.specs.Reading.{sheets, refused, due_at, not_rising, meets, refusals_from, first_met, read_file}
use Rattle.sheet.specs.declared.file.Entry.{Entry}
use Rattle.sheet.specs.declared.file.FileRefusal.TheVariants.{Size, Count, ContentsCut, Codes, Offset, PastEnd, NotRising, LeftOver}

-- k bytes of n, the least first
abbrev bytes : ℕ → ℕ → List ℕ
bytes zero n = []
bytes (suc k) n = n % 256 ∷ bytes k (n / 256)

abbrev contents : Entry → List ℕ
contents e = bytes 4 e.offset ++ (bytes 2 e.rows ++ (bytes 2 e.columns ++ (e.alternative ∷ e.choice ∷ e.positions ∷ bytes 5 0)))

-- 1 and -1
abbrev plus : List ℕ
plus = bytes 8 0x3ff0000000000000

abbrev minus : List ℕ
minus = bytes 8 0xbff0000000000000

abbrev first : Entry
first = record { offset = 52; rows = 2; columns = 1; alternative = 0; choice = 0; positions = 0 }

abbrev second : Entry
second = record { offset = 84; rows = 4; columns = 1; alternative = 1; choice = 2; positions = 0 }

abbrev third : Entry
third = record { offset = 148; rows = 1; columns = 1; alternative = 0; choice = 0; positions = 0 }

unfoldable pub whole_case : List ℕ
whole_case =
    bytes 4 3
    ++ (contents first ++ (contents second ++ (contents third
    ++ (plus ++ (minus ++ (plus ++ plus))
    ++ (plus ++ (minus ++ (plus ++ (minus ++ (plus ++ (plus ++ (plus ++ plus))))))
    ++ (plus ++ plus))))))

pub whole_length : length whole_case ≡ 164
unfolding whole_case
whole_length = refl

pub whole-read : read_file whole_case ≡ sheets (first ∷ second ∷ third ∷ [])
unfolding whole_case read_file first_met not_rising meets refusals_from due_at entry_of little_endian table
whole-read = refl

pub whole_numbers : residuals_of whole_case second ≡ map float (0x3ff0000000000000 ∷ 0xbff0000000000000 ∷ 0x3ff0000000000000 ∷ 0xbff0000000000000 ∷ [])
unfolding whole_case little_endian table
whole_numbers = refl

pub whole-columns : columns_of whole_case third ≡ map float (0x3ff0000000000000 ∷ [])
unfolding whole_case little_endian table
whole-columns = refl

-- read into a run longer than the residuals, and into one too short
pub whole-into : read_into whole_case first 0 2 (map float (1 ∷ 2 ∷ 3 ∷ [])) ≡ map float (0x3ff0000000000000 ∷ 0xbff0000000000000 ∷ 3 ∷ [])
unfolding whole_case little_endian table
whole-into = refl

pub whole-short : (read_count whole_case first 2 (map float (1 ∷ [])) ≡ 0) × (read_into whole_case first 0 2 (map float (1 ∷ [])) ≡ map float (1 ∷ []))
unfolding whole_case
whole-short = (refl, refl)

-- cut, lengthened, or with bytes changed; of two damages the first in the order counts
pub damaged-read : map read_file (
    take 3 whole_case
    ∷ set whole_case 0 0
    ∷ set whole_case 0 65
    ∷ take 51 whole_case
    ∷ set whole_case 12 3
    ∷ set whole_case 29 3
    ∷ set whole_case 51 1
    ∷ set whole_case 4 53
    ∷ set whole_case 20 83
    ∷ take 163 whole_case
    ∷ set (set (set (set whole_case 24 255) 25 255) 26 255) 27 255
    ∷ (whole_case ++ (0 ∷ []))
    ∷ set (set whole_case 4 53) 28 3
    ∷ [])
    ≡ refused Size
    ∷ refused Count
    ∷ refused Count
    ∷ refused ContentsCut
    ∷ refused (Codes 0)
    ∷ refused (Codes 1)
    ∷ refused (Codes 2)
    ∷ refused (Offset 0)
    ∷ refused (Offset 1)
    ∷ refused (PastEnd 2)
    ∷ refused (PastEnd 1)
    ∷ refused LeftOver
    ∷ refused (Offset 0)
    ∷ []
unfolding whole_case read_file first_met not_rising meets refusals_from due_at entry_of little_endian table
damaged-read = refl

-- a sheet of two rows with the positions p and q, and behind it one without; read, refused by 8, and with 4 or 6 beside it
abbrev placed : Entry
placed = record { offset = 36; rows = 2; columns = 1; alternative = 0; choice = 0; positions = 1 }

abbrev behind : Entry
behind = record { offset = 84; rows = 1; columns = 1; alternative = 0; choice = 0; positions = 0 }

abbrev positioned : ℕ → ℕ → List ℕ
positioned p q = bytes 4 2 ++ (contents placed ++ (contents behind ++ (bytes 8 p ++ (bytes 8 q ++ (plus ++ (minus ++ (plus ++ plus)) ++ (plus ++ plus))))))

pub positions-read : map read_file (
    positioned 5 6
    ∷ positioned 0x7fffffffffffffff 0x8000000000000000
    ∷ positioned 5 5
    ∷ positioned 0xffffffffffffffff 0
    ∷ set (positioned 5 6) 14 2
    ∷ set (positioned 5 5) 28 3
    ∷ take 83 (positioned 5 5)
    ∷ [])
    ≡ sheets (placed ∷ behind ∷ [])
    ∷ sheets (placed ∷ behind ∷ [])
    ∷ refused (NotRising 0)
    ∷ refused (NotRising 0)
    ∷ refused (Codes 0)
    ∷ refused (NotRising 0)
    ∷ refused (PastEnd 0)
    ∷ []
unfolding read_file first_met not_rising meets refusals_from due_at entry_of little_endian table first_where
positions-read = refl

pub positioned-numbers : residuals_of (positioned 5 6) placed ≡ map float (0x3ff0000000000000 ∷ 0xbff0000000000000 ∷ [])
unfolding little_endian table
positioned-numbers = refl
