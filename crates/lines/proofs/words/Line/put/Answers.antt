use Prim.Native.Nat.{◌+◌}
use native.Mathlib.Omega.{arith}
use mathlib.Core.Path.{sym, ap, ◌∙◌}
use lib.ListN.{length, get_or, drop}
use Rattle.lines.specs.Lines.{behind, words_at}
use Rattle.lines.proofs.PutLaws.{part-length, part-front}
use Rattle.lines.proofs.LineLaws.{rest_more, rest-none, room_next, word-room, words-next, words-end, left-next}
use Rattle.lines.proofs.words.Line.put.Goals as goal

pub put_word-at-requires : goal.put_word-at-requires
put_word-at-requires c = rw (part-length c.loop-t.at c.loop-t.out, c.kind.ensures) (omega (arith, c.loop-t.invariant.room, room_next c.args.self.values.now c.args.self.patterns.now c.loop-t.t c.loop-t-test.true))

pub overflow_add-at : goal.overflow_add-at
overflow_add-at c = let line = c.args.self in
    omega (arith, word-room line.values.now line.patterns.now c.loop-t.t c.loop-t.at (length c.loop-t.out) (get_or line.values.now c.loop-t.t 0) c.byte_behind-after.result c.loop-t-test.true c.loop-t.invariant.room, rw c.kind.ensures at c.put_word-at.ensures.0)

pub loop-t-preserved : goal.loop-t-preserved
loop-t-preserved c = let values = c.args.self.values.now in
    let patterns = c.args.self.patterns.now in
    let t = c.loop-t.t in
    let after = c.byte_behind-after.ensures ∙ ap behind (sym (left-next values patterns t)) in
    let rest = rw (words-next values patterns t c.loop-t-test.true) at c.loop-t.invariant in
    let room = word-room values patterns t c.loop-t.at (length c.loop-t.out) (get_or values t 0) (behind (length (drop (t + 1) (words_at values patterns)))) c.loop-t-test.true c.loop-t.invariant.room in
    rest_more rest (rw (c.kind.ensures, after) at (ap (λ n. c.loop-t.at + n) c.put_word-at.ensures.0)) (rw (rw (c.kind.ensures, after) at c.put_word-at.ensures.1) (part-front c.loop-t.at _ c.loop-t.out room))

pub returns : goal.returns
returns c = rest-none (rw (words-end c.args.self.values.now c.args.self.patterns.now c.loop-t.t c.loop-t-test.false) at c.loop-t.invariant)
