use Rattle.std.proofs.Common.{◌≡◌, ◌+◌, ◌-◌, ◌<◌, refl, ◌∙◌, arith, lit<}
use Rattle.floats.specs.Bits.{little_endian}
use Rattle.floats.proofs.ByteLaws.{byte_more, byte-bound, byte-room}
use Rattle.floats.proofs.bits.little_endian.Goals as goal

pub loop-t-init : goal.loop-t-init
unfolding little_endian
loop-t-init c = let z : c.args.k - c.args.k ≡ 0 = omega arith in rw z (record { read = refl; bound = lit< tt })

pub overflow_mul-n : goal.overflow_mul-n
overflow_mul-n c = omega (arith, byte-room _ _ c.loop-t.invariant.bound (omega arith))

pub overflow_add-n : goal.overflow_add-n
overflow_add-n c = omega (arith, byte-room _ _ c.loop-t.invariant.bound (omega arith), c.type_inv.s (c.args.i + (c.loop-t.t - 1)))

pub loop-t-preserved : goal.loop-t-preserved
loop-t-preserved c =
    let t = c.loop-t.t in
    let byte : c.from.result < 256 = omega (arith, c.type_inv.s (c.args.i + (t - 1))) in
    record {
      read = rw (c.loop-t.invariant.read, c.from.ensures) (byte_more t c.args.k c.args.i c.args.s.now (omega arith) (omega arith));
      bound = byte-bound _ _ t c.args.k (omega arith) (omega arith) c.loop-t.invariant.bound byte;
    }

pub returns : goal.returns
returns c = let all : c.args.k - c.loop-t.t ≡ c.args.k = omega arith in let start : c.args.i + c.loop-t.t ≡ c.args.i = omega arith in c.loop-t.invariant.read ∙ rw (all, start)
