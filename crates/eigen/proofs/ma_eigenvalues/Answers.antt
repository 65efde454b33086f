use mathlib.Core.Path.{◌≡◌, refl, sym, ap, ◌∙◌}
use native.Mathlib.Omega.{arith}
use lib.ListN.{take, drop, length-take, length-replicate}
use lib.Seq.{take_at, drop_at}
use Rattle.floats.specs.Tables.{triangle}
use Rattle.floats.specs.Matrix.{entry, whole, half_of}
use Rattle.floats.proofs.MatrixLaws.{length-symmetric, is-symmetric}
use Rattle.floats.proofs.HalfLaws.{triangle-twice, length-half, whole-half}
use Rattle.projection.specs.Projection.{product, mam_of}
use Rattle.eigen.proofs.SpectrumLaws.{found-some, found-none, matrix-bad, matrix-good}
use Rattle.eigen.proofs.ma_eigenvalues.Goals as goal

pub delivered-requires : goal.delivered-requires
delivered-requires c = let pre = c.requires in
    (omega (arith, c.mam.auto.room, triangle-twice c.args.sheet.size.rows, pre.1), c.args.sheet.design.0, pre.0, simp (length-take, length-replicate) (omega (arith, c.args.sheet.design.0)), simp (length-take, length-replicate) (omega (arith, c.args.sheet.design.0)), pre.2)

pub returns-then-is_some : goal.returns-then-is_some
returns-then-is_some c = let args = c.args in
    let mam = c.mam in
    let s = found-some _ (sym c.is_some.ensures ∙ c.if-is_some.true) in
    let z = matrix-bad args.sheet.run.now args.inverse args.sheet.size.rows args.sheet.size.columns s.0 (sym mam.ensures.value ∙ s.1) in record { value = sym z.0; kept_after = rw z.1 refl; room_after = rw z.2 mam.ensures.room_after }

pub returns : goal.returns
returns c = let args = c.args in
    let mam = c.mam in
    let delivered = c.delivered in
    let p = product args.sheet.run.now args.inverse args.sheet.size.rows args.sheet.size.columns in
    let m = mam_of args.sheet.run.now args.inverse args.sheet.size.rows args.sheet.size.columns in
    let o = length-half (entry args.sheet.size.rows m) args.sheet.size.rows in
    let f : whole args.sheet.size.rows (take (triangle args.sheet.size.rows) mam.new.room) ≡ m = ap (λ l. whole args.sheet.size.rows (take (triangle args.sheet.size.rows) l)) mam.ensures.room_after ∙ ap (whole args.sheet.size.rows) (take_at (half_of args.sheet.size.rows m) _ (triangle args.sheet.size.rows) o) ∙ whole-half args.sheet.size.rows m (length-symmetric args.sheet.size.rows p) (is-symmetric args.sheet.size.rows p) in
    let g = ap (drop (triangle args.sheet.size.rows)) mam.ensures.room_after ∙ drop_at (half_of args.sheet.size.rows m) _ (triangle args.sheet.size.rows) o in
    let z = matrix-good args.sheet.run.now args.inverse args.sheet.size.rows args.sheet.size.columns (sym mam.ensures.value ∙ found-none _ (sym c.is_some.ensures ∙ c.if-is_some.false)) in
    record { value = delivered.ensures.value ∙ rw f (sym z.0); kept_after = rw z.1 (rw f at delivered.ensures.kept_after); room_after = rw z.2 (rw (f, g) at delivered.ensures.room_after) }
