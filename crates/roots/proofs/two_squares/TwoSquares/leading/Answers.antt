use Rattle.std.proofs.Common.{◌+◌, ◌/◌, arith}
use Rattle.roots.specs.Squares.{Leading}
use Rattle.roots.proofs.Leading.{leading-is}
use Rattle.roots.proofs.two_squares.TwoSquares.leading.Goals as goal

pub overflow_add-result : goal.overflow_add-result
overflow_add-result c =
    let a = c.args in
    let u = c.high_square.result in
    let q = c.high_square-2.result in
    let s : Leading a.self.m a.self.w a.self.d (u / 4 + q) = leading-is a.self.m a.self.w a.self.d c.requires c.args.self.ranges.0 c.args.self.ranges.1 u q c.high_square.ensures c.high_square-2.ensures in
    record { fits = omega (arith, s.below) }

pub returns : goal.returns
returns c = leading-is c.args.self.m c.args.self.w c.args.self.d c.requires c.args.self.ranges.0 c.args.self.ranges.1 c.high_square.result c.high_square-2.result c.high_square.ensures c.high_square-2.ensures
