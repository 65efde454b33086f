-- The answer of the quadrature over a lent list of records, and what it leaves there. Definitions only. Assumes nothing.
use Rattle.std.specs.Prelude.{ℕ, cond, List, ◌++◌, ltb, length, replicate, drop, Result, Ok, Err}
use Rattle.imhof.specs.declared.Integral.{Integral}
use Rattle.imhof.specs.declared.Part.{Part}
use Rattle.imhof.specs.Quadrature.{Quadrature}
use Rattle.imhof.specs.Parts.{most_parts}
use Rattle.records.specs.declared.RecordsError.{RecordsError}
use Rattle.records.specs.declared.RecordsError.TheVariants.{RoomShort, NotFinite}
use Rattle.records.specs.Records.{zero_part}

-- what a quadrature gives, told by this crate's error
abbrev pub told_of : Quadrature → Result Integral RecordsError
told_of (Ok i) = Ok i
told_of (Err e) = Err NotFinite

-- q is the answer where the list has n records, one at least for every part that there can be
abbrev pub answer_of : ℕ → Quadrature → Result Integral RecordsError
answer_of n q = cond (ltb n most_parts) (Err RoomShort) (told_of q)

-- the list afterwards: untouched where it is too short, else its first records, as many as there can be parts, are zeros
abbrev pub cleared_of : List Part → List Part
cleared_of ps = cond (ltb (length ps) most_parts) ps (replicate most_parts zero_part ++ drop most_parts ps)
