use Prim.Native.Nat.{◌≤◌, ◌<◌}
use native.Mathlib.Omega.{arith}
use mathlib.Core.Path.{sym, ap}
use borrow.Author.Tests.{lt-ltb, le-ltb}
use Rattle.std.proofs.Common.{rules}
use Rattle.lines.specs.Lines.{longest_of, kinds_of, words_at}
use Rattle.lines.proofs.LineLaws.{room_next, words-end}
use Rattle.lines.proofs.words.Line.lacks_room.Goals as goal

pub returns-in_default : goal.returns-in_default
returns-in_default c = let line = c.args.self in
    let all = longest_of (kinds_of (words_at line.values.now line.patterns.now)) in
    let short : c.loop-t.left < c.widest.result = search rules in
    let less : c.args.room < all = omega (arith, short, room_next line.values.now line.patterns.now c.loop-t.t c.loop-t-test.true, rw c.kind.ensures at c.widest.ensures) in
    sym (lt-ltb _ _ less)

pub loop-t-preserved : goal.loop-t-preserved
loop-t-preserved c = let line = c.args.self in
    omega (arith, c.in-Some.ensures, room_next line.values.now line.patterns.now c.loop-t.t c.loop-t-test.true, rw c.kind.ensures at c.widest.ensures)

pub returns : goal.returns
returns c = let line = c.args.self in
    let all = longest_of (kinds_of (words_at line.values.now line.patterns.now)) in
    let fits : all ≤ c.args.room = omega (arith, ap (λ ws. longest_of (kinds_of ws)) (words-end line.values.now line.patterns.now c.loop-t.t c.loop-t-test.false)) in
    sym (le-ltb _ _ fits)
