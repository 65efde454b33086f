use Rattle.imhof.proofs.StageLaws.{next-settled, next-bisected, next-refused, length-split}
use Rattle.imhof.proofs.RoomLaws.{laid_in, part_in, length-in}
use Rattle.imhof.specs.Room.{parts_in, laid_out}
use Rattle.imhof.specs.Parts.{part_at, errors_of, worst_of, without, left_half, right_half, finite_part, tolerance}
use Rattle.imhof.specs.Integrand.{integrand_of}
use Rattle.floats.specs.Sums.{sum_run}
use lib.Ieee.{le}
use lib.ListN.{length}
use Prim.Native.Nat.{◌+◌}
use native.Mathlib.Omega.{arith}
use mathlib.Core.List.{◌++◌, ◌∷◌, []}
use mathlib.Core.Bool.{true, false, ◌&&◌}
use mathlib.Core.Path.{◌≡◌, refl, sym, ap, ap₂, ◌∙◌}
use Rattle.imhof.proofs.room.Parts.advance.Goals as goal

pub returns-then-error_sum : goal.returns-then-error_sum
returns-then-error_sum c = let f = integrand_of c.args.weights.now in
    let r = c.args.self.now.room.now in
    let ps = parts_in c.args.self.now.n r in
    let small : le (sum_run (errors_of ps)) tolerance ≡ true = rw (← c.error_sum.ensures) c.if-error_sum.true in
    record { same_room = refl; value = λ t. sym (ap (λ s. s.standing) (next-settled f ps t small)); count = λ t. sym (ap (λ s. length s.parts) (next-settled f ps t small) ∙ length-in c.args.self.now.n r); room_after = λ t. sym (ap (λ s. laid_out s.parts r) (next-settled f ps t small) ∙ laid_in c.args.self.now.n r) }

pub returns-then-not-are_finite : goal.returns-then-not-are_finite
returns-then-not-are_finite c = let f = integrand_of c.args.weights.now in
    let r = c.args.self.now.room.now in
    let ps = parts_in c.args.self.now.n r in
    let more : le (sum_run (errors_of ps)) tolerance ≡ false = rw (← c.error_sum.ensures) c.if-error_sum.false in
    let place : part_at ps (worst_of ps) ≡ c.part_at.result = rw (← c.worst-w.ensures.value) (part_in c.args.self.now.n c.worst-w.result r c.worst-w.ensures.bound ∙ sym c.part_at.ensures) in
    let left : left_half f (part_at ps (worst_of ps)) ≡ c.bisect-h.result.left = ap (left_half f) place ∙ sym c.bisect-h.ensures.left in
    let right : right_half f (part_at ps (worst_of ps)) ≡ c.bisect-h.result.right = ap (right_half f) place ∙ sym c.bisect-h.ensures.right in
    let broken : finite_part (left_half f (part_at ps (worst_of ps))) && finite_part (right_half f (part_at ps (worst_of ps))) ≡ false =
    ap₂ (λ p q. finite_part p && finite_part q) left right ∙ sym c.are_finite.ensures ∙ c.if-not-are_finite.true in
    record { same_room = refl; value = λ t. sym (ap (λ s. s.standing) (next-refused f ps t more broken)); count = λ t. sym (ap (λ s. length s.parts) (next-refused f ps t more broken) ∙ length-in c.args.self.now.n r); room_after = λ t. sym (ap (λ s. laid_out s.parts r) (next-refused f ps t more broken) ∙ laid_in c.args.self.now.n r) }

pub returns : goal.returns
returns c = let f = integrand_of c.args.weights.now in
    let r = c.args.self.now.room.now in
    let ps = parts_in c.args.self.now.n r in
    let more : le (sum_run (errors_of ps)) tolerance ≡ false = rw (← c.error_sum.ensures) c.if-error_sum.false in
    let place : part_at ps (worst_of ps) ≡ c.part_at.result = rw (← c.worst-w.ensures.value) (part_in c.args.self.now.n c.worst-w.result r c.worst-w.ensures.bound ∙ sym c.part_at.ensures) in
    let left : left_half f (part_at ps (worst_of ps)) ≡ c.bisect-h.result.left = ap (left_half f) place ∙ sym c.bisect-h.ensures.left in
    let right : right_half f (part_at ps (worst_of ps)) ≡ c.bisect-h.result.right = ap (right_half f) place ∙ sym c.bisect-h.ensures.right in
    let fine : finite_part (left_half f (part_at ps (worst_of ps))) && finite_part (right_half f (part_at ps (worst_of ps))) ≡ true =
    ap₂ (λ p q. finite_part p && finite_part q) left right ∙ sym c.are_finite.ensures ∙ c.if-not-are_finite.false in
    let split : laid_out (without c.worst-w.result ps ++ (c.bisect-h.result.left ∷ c.bisect-h.result.right ∷ [])) r ≡ laid_out (without (worst_of ps) ps ++ (left_half f (part_at ps (worst_of ps)) ∷ right_half f (part_at ps (worst_of ps)) ∷ [])) r =
    ap (λ w. laid_out (without w ps ++ (c.bisect-h.result.left ∷ c.bisect-h.result.right ∷ [])) r) c.worst-w.ensures.value ∙ ap₂ (λ p q. laid_out (without (worst_of ps) ps ++ (p ∷ q ∷ [])) r) (sym left) (sym right) in
    let few : length ps ≡ c.args.self.now.n = length-in c.args.self.now.n r in
    record { same_room = c.replace.ensures.same_room; value = λ t. sym (ap (λ s. s.standing) (next-bisected f ps t more fine)); count = λ t. c.replace.ensures.count ∙ sym (ap (λ s. length s.parts) (next-bisected f ps t more fine) ∙ length-split f ps t (omega arith) ∙ ap (λ n. n + 1) few); room_after = λ t. c.replace.ensures.room_after ∙ split ∙ sym (ap (λ s. laid_out s.parts r) (next-bisected f ps t more fine)) }
