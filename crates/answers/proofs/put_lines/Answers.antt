-- Each turn puts the line of the entry that the reader gives: a step of `NextLaws`. Assumes nothing.
use Prim.Native.Nat.{◌≤◌}
use native.Mathlib.Omega.{arith}
use mathlib.Core.Path.{refl, sym, ap, ◌∙◌}
use lib.ListN.{length}
use Rattle.std.proofs.Common.{rules}
use Rattle.lines.proofs.PutLaws.{put-none}
use Rattle.answers.proofs.LinesLaws.{to_none}
use Rattle.answers.proofs.NextLaws.{within, line-room, stepped, finished}
use Rattle.answers.proofs.put_lines.Goals as goal

pub loop-i-init : goal.loop-i-init
loop-i-init c =
    let none = to_none c.args.file.now in
    rw (c.into_iter-i-iterator.ensures.into_iter_gives, c.enumerate-i-items.ensures.source, c.enumerate-i-items.ensures.count)
    (record { same = ap (λ s. s.now) c.new.ensures.0; index = c.new.ensures.1; below = omega arith; ends = sym (ap length none); gives = rw none (sym (put-none 0 c.args.out.now)) })

pub result_of-requires : goal.result_of-requires
result_of-requires c = within c.requires.0 c.requires.1 c.loop-i.invariant c.in-Some.ensures.steps.0

pub slice_bounds-write_line-count : goal.slice_bounds-write_line-count
slice_bounds-write_line-count c = omega (arith, line-room c.requires.0 c.requires.1 c.loop-i.invariant c.in-Some.ensures.steps.0)

pub slice_bounds-write_line-start : goal.slice_bounds-write_line-start
slice_bounds-write_line-start c = let room : c.loop-i.at ≤ length c.loop-i.out = omega (arith, line-room c.requires.0 c.requires.1 c.loop-i.invariant c.in-Some.ensures.steps.0) in search rules

pub loop-i-preserved : goal.loop-i-preserved
loop-i-preserved c =
    let steps = c.in-Some.ensures.steps in
    rw steps.2 (stepped c.requires.0 c.requires.1 c.loop-i.invariant steps.0 (rw (c.result_of.ensures, steps.1) at c.write_line-at.ensures.value) (rw (c.result_of.ensures, steps.1) at c.write_line-at.ensures.out_after))
