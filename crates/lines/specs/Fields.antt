-- The line that answers a sheet (document 01, "The sheet program"): its fields, said once. How many there are, how long a line can be and what a caller in C is given follow from the
-- list; src/lib.rt has the same list as code, with its constants beside it. And the line of a file refusal. Definitions only. Assumes nothing.
use Rattle.std.specs.Prelude.{ℕ, ◌-◌, Bool, cond, List, [], ◌∷◌, ◌++◌, map, length, drop, Float}
use Prim.Native.String.{String}
use Rattle.std.specs.Float.{binary64}
use Rattle.std.specs.Float.Ieee.{to_bits}
use Rattle.outcome.specs.declared.Outcome.{Outcome}
use Rattle.sheet.specs.Reading.{number_of, index_of}
use Rattle.sheet.specs.declared.file.FileRefusal.{FileRefusal}
use Rattle.lines.specs.Lines.{Word, number, text, line_of, longest_of}
use Rattle.lines.specs.declared.words.Kind.{Kind}
use Rattle.lines.specs.declared.words.Kind.TheVariants.{Decimal, Hex}

-- a mark is 1 or 0; a float is shown by its bits
abbrev pub mark_of : Bool → ℕ
mark_of b = cond b 1 0

abbrev bits_of : Float → ℕ
bits_of x = to_bits binary64 x

-- a field: its name, how it is printed, and what it is on the line of sheet i, whose result is o
pub record Field : Type 0 where
  pub name : String
  pub kind : Kind
  pub value : ℕ → Outcome → ℕ

abbrev field : String → Kind → (ℕ → Outcome → ℕ) → Field
field name kind value = record { name = name; kind = kind; value = value }

-- THE FIELDS, in the line's order
abbrev pub fields : List Field
fields =
    field "index" Decimal (λ i o. i)
    ∷ field "refusal" Decimal (λ i o. o.refusal.number)
    ∷ field "place" Decimal (λ i o. o.refusal.place)
    ∷ field "statistic" Hex (λ i o. bits_of o.statistic)
    ∷ field "p" Hex (λ i o. bits_of o.p)
    ∷ field "path" Decimal (λ i o. o.path)
    ∷ field "fallback" Decimal (λ i o. mark_of o.fallback)
    ∷ field "kept" Decimal (λ i o. o.kept)
    ∷ field "sweeps" Decimal (λ i o. o.work.sweeps)
    ∷ field "bisections" Decimal (λ i o. o.work.bisections)
    ∷ field "evaluations" Decimal (λ i o. o.work.evaluations)
    ∷ field "settled" Decimal (λ i o. mark_of o.settled)
    ∷ []

-- the words of sheet i's line
abbrev pub fields_of : ℕ → Outcome → List Word
fields_of i o = map (λ f. record { kind = f.kind; value = f.value i o }) fields

-- their values; and those behind the index, which a caller in C is given
abbrev pub values_of : ℕ → Outcome → List ℕ
values_of i o = map (λ f. f.value i o) fields

abbrev pub words_of : Outcome → List ℕ
words_of o = drop 1 (values_of 0 o)

-- how many those are, and how long a line can be
abbrev pub word_count : ℕ
word_count = length fields - 1

abbrev pub longest : ℕ
longest = longest_of (map (λ f. f.kind) fields)

-- the line of a file refusal: its number and an entry's index
unfoldable pub file_line_of : FileRefusal → List ℕ
file_line_of f = text "file " ++ line_of (number (number_of f) ∷ number (index_of f) ∷ [])
