-- Document 01's whole case: its three lines, and lines of file refusals, worked out by the definitions themselves. Assumes nothing.
use Prim.Native.Nat.{ℕ}
use mathlib.Core.Path.{◌≡◌, refl}
use mathlib.Core.Bool.{Bool, true, false}
use mathlib.Core.List.{List, [], ◌∷◌, map}
use lib.ListN.{take}
use lib.Ieee.{Float, of_bits, to_bits}
use Rattle.floats.specs.Words.{plus_zero, float}
use Rattle.outcome.specs.declared.Alternative.TheVariants.{Greater}
use Rattle.outcome.specs.declared.Outcome.{Outcome}
use Rattle.sheet.specs.declared.file.FileRefusal.TheVariants.{Size, Codes, NotRising, LeftOver}
use Rattle.lines.specs.Lines.{text, digits, width_to, line_of, longest_of}
use Rattle.lines.specs.Fields.{fields, fields_of, file_line_of}

-- the result of a sheet of n rows by a path that needs no eigenvalue
abbrev result : ℕ → Float → Float → ℕ → ℕ → Bool → Outcome
result refusal d p n path settled =
    record { refusal = record { number = refusal; place = 0 }; statistic = d; p = p; alternative = Greater; n = n; path = path; fallback = false; kept = 0; work = record { sweeps = 0; bisections = 0; evaluations = 0 }; settled = settled; law = record { mean = plus_zero; variance = plus_zero } }

-- the lines of documents 01 and 02's twelve fields: a field more behind them changes none of these
abbrev line : ℕ → Outcome → List ℕ
line i o = line_of (take 12 (fields_of i o))

pub whole-lines : line 0 (result 0 (float 0x4000000000000000) (float 0x3ff0000000000000) 2 1 true) ∷ line 1 (result 0 (float 0x4008000000000000) (float 0x3ff0000000000000) 4 4 true) ∷ line 2 (result 6 plus_zero plus_zero 0 0 false) ∷ []
    ≡ map text (
    "0 0 0 4000000000000000 3ff0000000000000 1 0 0 0 0 0 1\n"
    ∷ "1 0 0 4008000000000000 3ff0000000000000 4 0 0 0 0 0 1\n"
    ∷ "2 6 0 0000000000000000 0000000000000000 0 0 0 0 0 0 0\n"
    ∷ [])
unfolding line_of digits width_to text to_bits of_bits
whole-lines = refl

-- the longest of them
pub longest-of-twelve : longest_of (map (λ f. f.kind) (take 12 fields)) ≡ 244
longest-of-twelve = refl

pub refusal-lines : map file_line_of (Size ∷ Codes 63 ∷ NotRising 63 ∷ LeftOver ∷ []) ≡ map text ("file 1 0\n" ∷ "file 4 63\n" ∷ "file 8 63\n" ∷ "file 7 0\n" ∷ [])
unfolding file_line_of line_of digits width_to text
refusal-lines = refl
