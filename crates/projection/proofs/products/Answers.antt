use lib.Seq.{length_front}
use lib.ListN.{length, length-replicate}
use Rattle.floats.specs.Words.{minus_zero}
use Rattle.floats.specs.Tables.{table}
use Rattle.projection.proofs.ProductLaws.{product_to, length-product, product-none, product-more, product-all}
use Prim.Native.Nat.{◌+◌, min}
use native.Mathlib.Omega.{arith}
use mathlib.Core.Path.{◌≡◌, ap, ◌∙◌}
use borrow.Author.Rules.{rules}
use Rattle.projection.proofs.products.Goals as goal

pub loop-first-init : goal.loop-first-init
loop-first-init g c = let n = c.args.maker.n in
    let m : min 0 n ≡ 0 = omega arith in
    let none = c.fill.ensures ∙ ap (table (λ j. minus_zero)) c.requires.0.0 ∙ product-none n c.args.maker.m.now in
    (ap length none ∙ length-product n c.args.maker.m.now 0, length-replicate _ _, length-replicate _ _, length-replicate _ _, rw m none)

pub loop-first-preserved : goal.loop-first-preserved
loop-first-preserved g c = let n = c.args.maker.n in
    let first = c.loop-first.first in
    let t : min first n ≡ first = omega (arith, c.loop-first-test.true) in
    let u : first + c.min-count.result ≡ min (first + 16) n = omega (arith, c.min-count.ensures) in
    let more = c.add.ensures ∙ rw (rw t at c.loop-first.invariant.4) (product-more n c.args.maker.m.now first c.min-count.result) ∙ ap (product_to n c.args.maker.m.now) u in
    (ap length more ∙ length-product n c.args.maker.m.now _, search rules, length_front c.loop-first.before c.load_rows.new.before n (search rules) ∙ c.loop-first.invariant.2, length_front c.loop-first.here c.load_rows.new.here n (search rules) ∙ c.loop-first.invariant.3, more)

-- no row is left, or the block that was added was the last
pub returns : goal.returns
returns g c = let m : min c.loop-first.first c.args.maker.n ≡ c.args.maker.n = omega (arith, c.loop-first-test.false) in
    rw m at c.loop-first.invariant.4 ∙ product-all c.args.maker.n c.args.maker.m.now

pub returns-2 : goal.returns-2
returns-2 g c = let n = c.args.maker.n in
    let first = c.loop-first.first in
    let t : min first n ≡ first = omega (arith, c.loop-first-test.true) in
    let u : first + c.min-count.result ≡ n = omega (arith, c.loop-first-test.true, c.min-count.ensures) in
    c.add.ensures ∙ rw (rw t at c.loop-first.invariant.4) (product-more n c.args.maker.m.now first c.min-count.result) ∙ ap (product_to n c.args.maker.m.now) u ∙ product-all n c.args.maker.m.now
