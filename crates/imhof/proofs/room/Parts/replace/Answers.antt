use Rattle.imhof.proofs.RoomLaws.{replaced-in}
use native.Mathlib.Omega.{arith}
use Rattle.imhof.proofs.room.Parts.replace.Goals as goal

pub returns-clause-room_after : goal.returns-clause-room_after
returns-clause-room_after c = let args = c.args in
    rw (c.put-3.ensures.room_after, c.put-2.ensures.room_after, c.put.ensures.room_after, c.part_at-last.ensures) (replaced-in args.self.now.n args.w args.left args.right args.self.now.room.now (omega arith) (omega arith))
