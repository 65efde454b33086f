-- The loop goes from the last byte down: before the turn for byte t - 1 it has read the highest k - t of the k bytes. Assumes nothing.
use Rattle.std.proofs.Common.{◌≡◌, ◌+◌, ◌-◌, ◌^◌, ◌<◌}
use Rattle.floats.specs.Bits.{little_endian}
use Rattle.floats.proofs.bits.little_endian.Given as goal

abbrev pub invariant-loop-t : goal.invariant-loop-t
invariant-loop-t l = record { read : l.n ≡ little_endian (l.k - l.t) l.s (l.i + l.t); bound : l.n < 256 ^ (l.k - l.t) }
