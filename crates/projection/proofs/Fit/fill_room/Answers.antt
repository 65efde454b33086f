-- M fills the second half, and M A M is worked out from it. Assumes nothing.
use native.Mathlib.Nat.{add-zero}
use mathlib.Core.Path.{◌∙◌}
use Rattle.projection.proofs.RoomLaws.{room_of_lem}
use Rattle.projection.proofs.Fit.fill_room.Goals as goal

pub returns-then-n-le-FEW : goal.returns-then-n-le-FEW
returns-then-n-le-FEW c = let s = c.args.self.now in room_of_lem s.sheet.run.now s.inv.now s.sheet.size.rows s.sheet.size.columns c.args.room.now _ _ _ _ (c.place-half.ensures ∙ add-zero _) c.split_at_mut-mam.ensures.back c.residual_maker.ensures c.products.ensures

pub returns-else-n-le-FEW : goal.returns-else-n-le-FEW
returns-else-n-le-FEW c = let s = c.args.self.now in room_of_lem s.sheet.run.now s.inv.now s.sheet.size.rows s.sheet.size.columns c.args.room.now _ _ _ _ (c.place-half.ensures ∙ add-zero _) c.split_at_mut-mam.ensures.back c.residual_maker.ensures c.products-else-n-le-FEW.ensures
