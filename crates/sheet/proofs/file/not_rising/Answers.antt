-- `any` asks each row from the second on whether its position is not above the one before it. Assumes nothing.
use Prim.Native.Nat.{◌-◌, ◌≤◌, ◌<◌}
use mathlib.Core.Path.{refl}
use borrow.Author.Tests.{tests, eq-eqb, ne_eqb}
use Rattle.std.proofs.Common.{rules}
use Rattle.std.proofs.lemmas.Iterator.{cases_from_any, YieldsList-from_range}
use Rattle.sheet.specs.Contents.{position_of}
use Rattle.sheet.specs.Reading.{not_rising}
use Rattle.sheet.proofs.RisingLaws.{any-falls}
use Rattle.sheet.proofs.file.not_rising.Goals as goal

pub returns-then-e-eq1 : goal.returns-then-e-eq1
unfolding not_rising
returns-then-e-eq1 c = let args = c.args in
    rw (eq-eqb _ _ c.if-e-eq1.true)
    (any-falls (position_of args.file.now args.e) args.e.rows _
    (cases_from_any _ _ _ (λ t. position_of args.file.now args.e t ≤ position_of args.file.now args.e (t - 1)) (λ t. position_of args.file.now args.e (t - 1) < position_of args.file.now args.e t)
    c.any.ensures.ran (YieldsList-from_range 1 args.e.rows (args.e.rows - 1) refl refl) (λ t q k. search (rules, tests)) (λ t q k. search (rules, tests))))

pub returns-else-e-eq1 : goal.returns-else-e-eq1
unfolding not_rising
returns-else-e-eq1 c = rw (ne_eqb _ _ c.if-e-eq1.false)
