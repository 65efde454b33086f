use native.Mathlib.Nat.{not-suc-le-zero}
use Rattle.floats.proofs.ListLaws.{row_in}
use Rattle.design.proofs.DifferenceLaws.{differences-more}
use native.Mathlib.Omega.{arith}
use mathlib.Core.Path.{◌≡◌, refl, ◌∙◌}
use Rattle.design.proofs.difference.difference_columns.Goals as goal

pub loop-j-init : goal.loop-j-init
loop-j-init c = (omega arith, refl, (λ j t l m. absurd (not-suc-le-zero l)))

pub overflow_mul-j : goal.overflow_mul-j
overflow_mul-j c = omega (arith, row_in c.args.size.rows c.loop-j-test.true)

pub difference_column-requires : goal.difference_column-requires
difference_column-requires c = omega (arith, row_in c.args.size.rows c.loop-j-test.true)

pub loop-j-preserved : goal.loop-j-preserved
loop-j-preserved c = let a = c.args in
    let w = c.loop-j in
    let h = row_in a.size.rows c.loop-j-test.true in (omega arith, c.difference_column.auto.differences ∙ w.invariant.1, rw c.difference_column.ensures (differences-more a.columns.now w.differences a.size.rows w.j (omega arith) w.invariant.2))

pub returns : goal.returns
returns c = let h : c.loop-j.j ≡ c.args.size.columns = omega arith in record { differences_len_unchanged = c.loop-j.invariant.1; by_index = rw h at c.loop-j.invariant.2 }
