-- The room's first n (n + 1) / 2 numbers are M A M, and those are searched. Assumes nothing.
use native.Mathlib.Nat.{add-zero}
use native.Mathlib.Omega.{arith}
use mathlib.Core.Path.{◌≡◌, ap, ◌∙◌}
use Rattle.floats.specs.Search.{first_bad}
use Rattle.floats.specs.Tables.{triangle}
use Rattle.floats.proofs.HalfLaws.{triangle-twice}
use Rattle.projection.proofs.RoomLaws.{half-lent, room-wholes, first_of}
use borrow.Author.Rules.{rules}
use Rattle.projection.proofs.mam.Goals as goal

pub fill_room-requires : goal.fill_room-requires
fill_room-requires c = (omega (arith, triangle-twice c.args.sheet.size.rows, c.requires), c.args.sheet.design.0)

pub slice_bounds-first_bad-end : goal.slice_bounds-first_bad-end
slice_bounds-first_bad-end c = let h = triangle-twice c.args.sheet.size.rows in search rules

pub slice_bounds-first_bad-end-2 : goal.slice_bounds-first_bad-end-2
slice_bounds-first_bad-end-2 c = let h = triangle-twice c.args.sheet.size.rows in half-lent _ c.fill_room.new.room (search rules)

pub returns : goal.returns
returns c = let args = c.args in
    let fill-room = c.fill_room in
    let z : c.place-searched.result ≡ triangle args.sheet.size.rows = c.place-searched.ensures ∙ add-zero _ in
    record { value = rw z at c.first_bad.ensures.value ∙ ap first_bad (first_of _ _ _ _ fill-room.new.room args.room.now fill-room.ensures); room_after = room-wholes _ _ _ _ fill-room.new.room args.room.now fill-room.ensures }
