use native.Mathlib.Omega.{arith}
use mathlib.Core.Path.{◌≡◌, refl, sym, ap, ◌∙◌}
use lib.ListN.{length}
use Rattle.floats.specs.Tables.{triangle}
use Rattle.floats.specs.Matrix.{whole}
use Rattle.floats.specs.Search.{first_bad}
use Rattle.eigen.specs.Spectrum.{numbers_of}
use Rattle.eigen.proofs.SpectrumLaws.{worked-is, found-some, found-none, number-bad, numbers-good}
use lib.ListN.{length-take, take}
use Rattle.eigen.proofs.delivered.Goals as goal

pub returns-then-is_some : goal.returns-then-is_some
returns-then-is_some c = let args = c.args in
    let pre = c.requires in
    let place = c.place-half in
    let tridiagonalize = c.tridiagonalize in
    let bands = c.bands in
    let new = c.new in
    let ql = c.ql-stuck in
    let l : length tridiagonalize.new.a ≡ triangle args.size.rows = omega (arith, tridiagonalize.auto.a, length-take place.result args.room.now, place.ensures, pre.0) in
    let w = worked-is args.size.rows args.room.now tridiagonalize.new.a args.d.now args.e.now bands.new.d bands.new.e new.result l pre.3 pre.4 new.ensures place.result place.ensures tridiagonalize.ensures bands.ensures.d_after bands.ensures.e_after in
    let half : place.result ≡ triangle args.size.rows = omega (arith, place.ensures) in
    let v : ql.new.d ≡ numbers_of args.size.rows (whole args.size.rows (take (triangle args.size.rows) args.room.now)) = ql.ensures.d_after ∙ ap (λ s. s.diagonal) w.1 in
    let s = found-some _ (sym c.is_some.ensures ∙ c.if-is_some.true) in
    let f = ap first_bad (sym v) ∙ sym c.first_bad.ensures.value ∙ s.1 in
    let z = number-bad args.size.rows args.size.columns (whole args.size.rows (take (triangle args.size.rows) args.room.now)) s.0 f in
    record { value = sym z.0; room_after = rw (w.0, half) refl; kept_after = rw z.1 refl }

pub returns : goal.returns
returns c = let args = c.args in
    let pre = c.requires in
    let place = c.place-half in
    let tridiagonalize = c.tridiagonalize in
    let bands = c.bands in
    let new = c.new in
    let ql = c.ql-stuck in
    let order = c.order in
    let keep = c.keep-count in
    let l : length tridiagonalize.new.a ≡ triangle args.size.rows = omega (arith, tridiagonalize.auto.a, length-take place.result args.room.now, place.ensures, pre.0) in
    let w = worked-is args.size.rows args.room.now tridiagonalize.new.a args.d.now args.e.now bands.new.d bands.new.e new.result l pre.3 pre.4 new.ensures place.result place.ensures tridiagonalize.ensures bands.ensures.d_after bands.ensures.e_after in
    let half : place.result ≡ triangle args.size.rows = omega (arith, place.ensures) in
    let v : ql.new.d ≡ numbers_of args.size.rows (whole args.size.rows (take (triangle args.size.rows) args.room.now)) = ql.ensures.d_after ∙ ap (λ s. s.diagonal) w.1 in
    let f = ap first_bad (sym v) ∙ sym c.first_bad.ensures.value ∙ found-none _ (sym c.is_some.ensures ∙ c.if-is_some.false) in
    let z = numbers-good args.size.rows args.size.columns (whole args.size.rows (take (triangle args.size.rows) args.room.now)) order.new.d f (order.ensures ∙ rw v) in
    record { value = rw (z.0, keep.ensures.count, ql.ensures.work_value.0, ql.ensures.work_value.1, w.1, w.2); room_after = rw (w.0, half) refl; kept_after = rw z.1 keep.ensures.kept_after }
