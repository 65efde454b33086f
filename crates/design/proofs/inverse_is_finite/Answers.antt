use Rattle.std.proofs.Common.{rules, true, false, refl, ◌≡◌, arith}
use Rattle.std.proofs.lemmas.Iterator.{cases_from_all, YieldsList-from_range}
use borrow.Author.Tests.{tests}
use lib.Ieee.Scale.{finite}
use Rattle.design.specs.Matrix.{entry, every}
use Rattle.design.proofs.EveryLaws.{every-all}
use Rattle.design.proofs.inverse_is_finite.Goals as goal

pub returns : goal.returns
returns c =
    let a = c.args in
    every-all (λ i. every a.k (λ j. finite (entry a.inverse i j))) a.k c.all.result
    (cases_from_all _ _ c.all.result (λ i. every a.k (λ j. finite (entry a.inverse i j)) ≡ true) (λ i. every a.k (λ j. finite (entry a.inverse i j)) ≡ false) c.all.ensures.ran (YieldsList-from_range 0 a.k a.k refl (omega arith)) (λ x q k. search (rules, tests)) (λ x q k. search (rules, tests)))
