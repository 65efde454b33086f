-- The name, and behind it the line of two numbers. Assumes nothing.
use native.Mathlib.Omega.{arith}
use mathlib.Core.Path.{◌≡◌, ap, ◌∙◌}
use Prim.Native.Nat.{ℕ, ◌+◌, ◌≤◌}
use mathlib.Core.List.{List, [], ◌∷◌, ◌++◌}
use lib.ListN.{length, drop}
use Rattle.floats.specs.Tables.{table}
use Rattle.lines.specs.Lines.{number, text, line_of, among, put_at}
use Rattle.lines.specs.Fields.{longest, file_line_of}
use Rattle.lines.proofs.PutLaws.{length-put, put-more, part-length, part-front, front-put, front-left}
use Rattle.lines.proofs.LineLaws.{line-length}
use Rattle.lines.proofs.write_file_refusal.Goals as goal

pub returns-then-out-lt-LONGEST : goal.returns-then-out-lt-LONGEST
returns-then-out-lt-LONGEST c =
    let f = front-left longest (file_line_of c.args.refusal) c.args.out.now c.if-out-lt-LONGEST.true in
    record { value = f.0; out_after = f.1.0; counts = f.1.1 }

-- the buffer with the name at its front
named : (l name : List ℕ) → name ≡ text "file " → name ++ drop 5 l ≡ put_at 0 (text "file ") l
unfolding text put_at
named l name e = rw e

long : (l name : List ℕ) → name ≡ text "file " → 5 ≤ length l → length (name ++ drop 5 l) ≡ length l
unfolding text
long l name e h = rw (named l name e) (length-put 0 (text "file ") l h)

pub put-requires : goal.put-requires
unfolding table among text
put-requires c = let l = c.args.out.now in
    let same = long l c.copy_from_slice.new.self c.copy_from_slice.ensures.after (omega arith) in
    rw (part-length 5 (c.copy_from_slice.new.self ++ drop 5 l), same) (omega arith)

pub returns : goal.returns
unfolding file_line_of text table among
returns c = let l = c.args.out.now in
    let name = c.copy_from_slice.new.self in
    let line = line_of (number c.number.result ∷ number c.index.result ∷ []) in
    let room : 5 + length line ≤ length (name ++ drop 5 l) = omega (arith, long l name c.copy_from_slice.ensures.after (omega arith), line-length (number c.number.result ∷ number c.index.result ∷ [])) in
    let same : text "file " ++ line ≡ file_line_of c.args.refusal = rw (c.number.ensures, c.index.ensures) in
    let all : 5 + c.put.result ≡ length (text "file " ++ line) = omega (arith, c.put.ensures.0) in
    let put = rw c.put.ensures.1 (part-front 5 line (name ++ drop 5 l) room) ∙ ap (put_at 5 line) (named l name c.copy_from_slice.ensures.after) ∙ put-more 0 (text "file ") line l (omega arith) in
    let f = front-put longest (file_line_of c.args.refusal) l c.if-out-lt-LONGEST.false (all ∙ ap length same) (put ∙ ap (λ w. put_at 0 w l) same) in
    record { value = f.0; out_after = f.1.0; counts = f.1.1 }

pub overflow_add-result : goal.overflow_add-result
unfolding table among
overflow_add-result c = omega (arith, c.put.ensures.0, line-length (number c.number.result ∷ number c.index.result ∷ []))
