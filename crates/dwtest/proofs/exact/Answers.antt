use Rattle.outcome.specs.Rooms.{room_of, part_room}
use mathlib.Core.Path.{◌∙◌}
use native.Mathlib.Omega.{arith}
use Rattle.eigen.proofs.SpectrumLaws.{beyond}
use Rattle.dwtest.proofs.RoomLaws.{wiped}
use Rattle.dwtest.proofs.KeptLaws.{counted, by_front}
use Rattle.dwtest.proofs.exact.Goals as goal

pub by_spectrum-said-requires : goal.by_spectrum-said-requires
by_spectrum-said-requires c = let args = c.args in
    let pre = c.requires in
    let ma-eigenvalues = c.ma_eigenvalues-spectrum in
    (counted args.case.sheet.run.now args.inverse args.case.sheet.size.rows args.case.sheet.size.columns _ _ ma-eigenvalues.ensures.value (omega (arith, ma-eigenvalues.auto.kept)) args.case.sheet.design.0, pre.1)

pub clear-requires : goal.clear-requires
clear-requires c = omega (arith, c.matrix_room.ensures)

pub returns : goal.returns
returns c = let args = c.args in
    let ma-eigenvalues = c.ma_eigenvalues-spectrum in
    let by-spectrum = c.by_spectrum-said in
    let matrix-room = c.matrix_room in
    let clear = c.clear in
    record { value = by-spectrum.ensures.value ∙ by_front args.case.sheet.run.now args.inverse args.case.sheet.size.rows args.case.sheet.size.columns args.case.asked _ _ _ ma-eigenvalues.ensures.value ma-eigenvalues.ensures.kept_after; matrix_after = wiped (room_of args.case.sheet.size.rows) args.matrix.now ma-eigenvalues.new.room _ (rw matrix-room.ensures at clear.ensures) (beyond args.case.sheet.run.now args.inverse args.case.sheet.size.rows args.case.sheet.size.columns args.matrix.now _ ma-eigenvalues.ensures.room_after); parts_after = wiped part_room args.parts.now by-spectrum.new.parts _ c.clear-2.ensures by-spectrum.ensures.parts_unchanged }
