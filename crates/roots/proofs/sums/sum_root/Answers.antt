-- `sum_root`: far apart (`far`), or as `careful` says, or by the leading digits alone (SumBits.antt: `told`).
use Rattle.std.proofs.Common.{◌≡◌, ◌+◌, ◌*◌, ◌/◌, ◌^◌, ◌<◌, ◌≤◌, ◌⊎◌, inl, inr, arith, ltb-false, lt-ltb, le-ltb}
use Rattle.roots.proofs.Squares.{side}
use Rattle.roots.proofs.Steps.{far}
use Rattle.roots.proofs.SumBits.{told}
use Rattle.roots.proofs.sums.sum_root.Goals as goal

pub returns-then-d-ge27 : goal.returns-then-d-ge27
returns-then-d-ge27 c = far (c.args.p / 2) (c.args.q / 2) (omega arith) (omega arith)

-- Which way the root goes, past the test of the difference: it does not wrap where `test` is not more than `base`.
pub returns : goal.returns
returns c =
    let p = c.args.p in
    let q = c.args.q in
    let r = c.root_below-r.result in
    let e : p / 2 ^ 53 ≡ p / 2 / 2 ^ 52 = omega arith in
    let way : ((r.below.base < r.below.test) × (c.from.result ≡ 1)) ⊎ ((r.below.test + 3 * 2 ^ 44 ≤ r.below.base) × (c.from.result ≡ 0)) = elim (side r.below.base r.below.test) [
      | inl g ↦ inl (g, rw (lt-ltb r.below.base r.below.test g) at c.from.ensures)
      | inr g ↦ inr (omega (arith, g, c.if-below-lt-SURE.false, c.root_below-r.ensures.few), rw (le-ltb r.below.base r.below.test g) at c.from.ensures)
    ] in
    rw e (told (p / 2) (q / 2) c.from.result (omega (arith, c.root_below-r.ensures.one)) (omega arith) (omega (arith, ltb-false)) c.root_below-r.ensures way)
