use lib.ListN.{drop, length-take}
use Prim.Native.Nat.{◌+◌, ◌≤◌}
use native.Mathlib.Omega.{arith}
use mathlib.Core.List.{◌++◌}
use mathlib.Core.Path.{sym, ap, ◌∙◌}
use Rattle.std.proofs.Common.{rules}
use Rattle.eigen.proofs.OrderLaws.{put_last}
use Rattle.eigen.proofs.order.put_in.Goals as goal

pub returns : goal.returns
returns c = let d = c.args.d.now in
    let i = c.args.i in
    let loop = c.loop-number in
    let p : c.place-p.result ≤ i = omega (arith, c.place-p.ensures.0, length-take i d) in
    put_last d loop.number-items c.place-p.result i loop.number-index loop.x p c.requires (search rules) (omega arith) loop.invariant ∙ ap (λ l. l ++ drop (i + 1) d) (sym c.place-p.ensures.1)
