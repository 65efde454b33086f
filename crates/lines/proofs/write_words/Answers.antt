-- No room, and nothing is put; else the line, at the front. Assumes nothing.
use mathlib.Core.Path.{sym, ◌∙◌}
use borrow.Author.Tests.{ltb-true, ltb-false}
use Rattle.lines.specs.Lines.{line_of, longest_of, kinds_of, words_at}
use Rattle.lines.proofs.PutLaws.{front-put, front-left}
use Rattle.lines.proofs.write_words.Goals as goal

pub returns-then-lacks_room : goal.returns-then-lacks_room
returns-then-lacks_room c = let ws = words_at c.args.words.now c.args.patterns.now in
    let f = front-left (longest_of (kinds_of ws)) (line_of ws) c.args.out.now (ltb-true _ _ (sym c.lacks_room.ensures ∙ c.if-lacks_room.true)) in
    record { value = f.0; out_after = f.1.0; counts = f.1.1 }

pub put-requires : goal.put-requires
put-requires c = ltb-false _ _ (sym c.lacks_room.ensures ∙ c.if-lacks_room.false)

pub returns : goal.returns
returns c = let ws = words_at c.args.words.now c.args.patterns.now in
    let f = front-put (longest_of (kinds_of ws)) (line_of ws) c.args.out.now (ltb-false _ _ (sym c.lacks_room.ensures ∙ c.if-lacks_room.false)) c.put.ensures.0 c.put.ensures.1 in
    record { value = f.0; out_after = f.1.0; counts = f.1.1 }
