-- No room, and nothing is put; else the lines of an accepted file, or its refusal's. Assumes nothing.
use mathlib.Core.Path.{sym, ap, ◌∙◌}
use lib.ListN.{length}
use Rattle.lines.specs.Lines.{put_at}
use Rattle.lines.specs.Fields.{file_line_of}
use Rattle.lines.proofs.PutLaws.{front-put, front-left}
use Rattle.answers.specs.Answer.{answer_to, most_bytes}
use Rattle.answers.proofs.AnswerLaws.{accepted-all, answer-lines, answer-refused, room-for-all}
use Rattle.answers.proofs.answer.Goals as goal

pub returns-then-out-lt-MOST_BYTES : goal.returns-then-out-lt-MOST_BYTES
returns-then-out-lt-MOST_BYTES c =
    let f = front-left most_bytes (answer_to c.args.file.now) c.args.out.now c.if-out-lt-MOST_BYTES.true in
    record { value = f.0; out_after = f.1.0; counts = f.1.1 }

pub put_lines-requires : goal.put_lines-requires
put_lines-requires c = (accepted-all c.args.file.now (sym c.in-Ok.ensures), c.if-out-lt-MOST_BYTES.false)

pub returns-in-Ok : goal.returns-in-Ok
returns-in-Ok c = let file = c.args.file.now in
    let l = c.args.out.now in
    let same = sym (answer-lines file (accepted-all file (sym c.in-Ok.ensures))) in
    let f = front-put most_bytes (answer_to file) l c.if-out-lt-MOST_BYTES.false (c.put_lines.ensures.0 ∙ ap length same) (c.put_lines.ensures.1 ∙ ap (λ w. put_at 0 w l) same) in
    record { value = f.0; out_after = f.1.0; counts = f.1.1 }

pub returns-in-Err : goal.returns-in-Err
returns-in-Err c = let file = c.args.file.now in
    let l = c.args.out.now in
    let r = room-for-all (file_line_of c.in-Err.refusal) l c.if-out-lt-MOST_BYTES.false c.write_file_refusal.ensures.value c.write_file_refusal.ensures.out_after in
    rw (answer-refused file (sym c.in-Err.ensures)) (record { value = r.0; out_after = r.1; counts = c.write_file_refusal.ensures.counts })
