use Prim.Native.Nat.{ℕ, ◌^◌, ◌-◌, ◌+◌, ◌<◌, ◌≤◌}
use native.Mathlib.Nat.{div-one, sub_self, pow-zero, pow-suc, div-div-eq-div-mul}
use native.Mathlib.Numerals.{add-one}
use native.Mathlib.Omega.{arith}
use mathlib.Core.Path.{◌≡◌, sym, ap, ◌∙◌}
use mathlib.Core.List.{List, ◌∷◌}
use lib.ListN.{length, set}
use Rattle.lines.specs.Lines.{digits, put_at}
use Rattle.lines.proofs.DigitLaws.{length_digits}
use Rattle.lines.proofs.PutLaws.{put-none, put-before, put-all}
use Rattle.lines.proofs.words.put_digits.Goals as goal

-- one byte before those at place t
before : (t d : ℕ) (ys l : List ℕ) → 0 < t → t ≤ length l → set (put_at t ys l) (t - 1) d ≡ put_at (t - 1) (d ∷ ys) l
before t d ys l p h = let q : t ≡ t - 1 + 1 = omega arith in
    ap (λ k. set (put_at k ys l) (t - 1) d) q ∙ put-before (t - 1) d ys l (omega arith)

pub loop-t-init : goal.loop-t-init
unfolding digits
loop-t-init c = rw (sub_self (length c.args.out.now)) (rw pow-zero (sym (div-one c.args.n)), sym (put-none _ _))

pub loop-t-preserved : goal.loop-t-preserved
unfolding digits
loop-t-preserved c = let args = c.args in
    let t = c.loop-t.t in
    let n = length args.out.now in
    let p : n - (t - 1) ≡ n - t + 1 = omega arith in
    rw (p, add-one (n - t)) (
      rw (c.loop-t.invariant.0, pow-suc) (div-div-eq-div-mul args.n (args.base ^ (n - t)) args.base),
      rw (c.loop-t.invariant.1, c.digit.ensures, c.loop-t.invariant.0) (before t _ _ args.out.now (omega arith) (omega arith)),
    )

pub returns : goal.returns
returns c = let n = length c.args.out.now in
    let t : c.loop-t.t ≡ 0 = omega arith in
    let k : n - 0 ≡ n = omega arith in
    rw (t, k) at c.loop-t.invariant.1 ∙ put-all (digits c.args.base n c.args.n) c.args.out.now (length_digits c.args.base n c.args.n)
