use mathlib.Core.List.{◌++◌, append-nil}
use mathlib.Core.Path.{◌≡◌}
use Prim.Native.Nat.{◌≤◌, ◌+◌}
use native.Mathlib.Omega.{arith}
use borrow.Author.Tests.{le-leb}
use lib.Ieee.{nan}
use Rattle.std.proofs.Common.{rules}
use lib.ListN.{length, take, drop, drop_of_length-le}
use lib.Seq.{length-take-le}
use Rattle.floats.specs.Tables.{table}
use Rattle.sheet.specs.Contents.{body_number, numbers_of, body_end}
use Rattle.sheet.proofs.Fronts.{fill_more}
use Rattle.sheet.proofs.file.read_numbers.Goals as goal

pub loop-t-init : goal.loop-t-init
unfolding table
loop-t-init c = search rules

pub loop-t-preserved : goal.loop-t-preserved
loop-t-preserved c = let args = c.args in
    rw (c.loop-t.invariant, c.body_number.ensures) (fill_more nan (λ t. body_number args.file.now args.e (args.first + t)) (take args.count args.run.now) c.loop-t.t (omega arith))

read : (c : goal.After-slice_known-in-loop-t-1) → c.loop-t.x-items ++ drop c.args.count c.args.run.now ≡ numbers_of c.args.file.now c.args.e c.args.first c.args.count ++ drop c.args.count c.args.run.now
read c = let args = c.args in
    let n : length (take args.count args.run.now) ≡ args.count = length-take-le _ _ c.if-count-run.false in
    let t : c.loop-t.t ≡ args.count = omega arith in
    rw (c.loop-t.invariant, t, drop_of_length-le (take args.count args.run.now) {i = args.count} (omega arith), append-nil (numbers_of args.file.now args.e args.first args.count))

pub returns-clause-run_after : goal.returns-clause-run_after
returns-clause-run_after c = let within : body_end c.args.e ≤ length c.args.file.now = omega arith in
    rw (le-leb _ _ within, le-leb _ _ c.if-count-run.false) (read c)

pub returns-clause-all_read : goal.returns-clause-all_read
returns-clause-all_read c = λ _ _. read c
