use mathlib.Core.Bool.{Bool, true, false}
use lib.Ieee.{Float, le}
use Rattle.std.specs.Prelude.{None}
use Rattle.floats.specs.Words.{◌⊕◌, ◌⊗◌, ◌‼◌}
use Rattle.floats.specs.Signs.{abs_of}
use Rattle.floats.specs.Search.{first_where}
use Rattle.floats.proofs.FirstLaws.{first-at, first-not}
use Rattle.ql.proofs.SizeLaws.{size_of, le-sizes}
use Rattle.ql.specs.Rotation.{epsilon, negligible}
use Rattle.ql.specs.Sweep.{block_end, end_at}
use Prim.Native.Nat.{ℕ, ◌+◌, ◌-◌, ◌≤◌, ◌<◌}
use native.Mathlib.Omega.{arith}
use mathlib.Core.List.{List}
use mathlib.Core.Path.{◌≡◌, refl, ap, sym, subst, ◌∙◌}
use Rattle.ql.proofs.Bands.block_end.Goals as goal

-- what the test says, from the sizes at hand
said : (r : Bool) (e a b above below : Float) → r ≡ le (abs_of e) (epsilon ⊗ (above ⊕ below)) → above ≡ size_of a → below ≡ size_of b → negligible e a b ≡ r
said r e a b above below q x y = sym ((rw (x, y) at q) ∙ le-sizes e a b)

module _ (n : ℕ) (d e : List Float) (l m : ℕ) (h : l ≤ m) where
  abbrev test : ℕ → Bool
  test t = negligible (e ‼ (l + t)) (d ‼ (l + t)) (d ‼ (l + t + 1))

  back : l + (m - l) ≡ m
  back = omega arith

  here : (b : Bool) → negligible (e ‼ m) (d ‼ m) (d ‼ (m + 1)) ≡ b → test (m - l) ≡ b
  here b p = ap (λ (i : ℕ). negligible (e ‼ i) (d ‼ i) (d ‼ (i + 1))) back ∙ p

  found : m < n - 1 → first_where (m - l) test ≡ None → negligible (e ‼ m) (d ‼ m) (d ‼ (m + 1)) ≡ true → m ≡ block_end n d e l
  unfolding block_end
  found o p q = sym (ap (end_at n l) (first-at test {n = n - 1 - l} {i = m - l} (omega arith) p (here true q)) ∙ back)

  passed : first_where (m - l) test ≡ None → negligible (e ‼ m) (d ‼ m) (d ‼ (m + 1)) ≡ false → first_where (m + 1 - l) test ≡ None
  passed p q = let s : m - l + 1 ≡ m + 1 - l = omega arith in subst (λ k. first_where k test ≡ None) s (first-not test (m - l) p (here false q))

  none : m ≡ n - 1 → first_where (m - l) test ≡ None → n - 1 ≡ block_end n d e l
  unfolding block_end
  none o p = sym (ap (end_at n l) (rw o at p))

pub loop-m-init : goal.loop-m-init
unfolding first_where
loop-m-init c = (omega arith, omega arith, c.size-above.ensures, let s : c.args.l - c.args.l ≡ 0 = omega arith in rw s refl)

pub returns-then-is_negligible-clause-value : goal.returns-then-is_negligible-clause-value
returns-then-is_negligible-clause-value c = let loop = c.loop-m in
    let s = c.args.self.now in
    found s.n s.d.now s.e.now c.args.l loop.m (omega arith) (omega arith) loop.invariant.3 (said _ _ _ _ _ _ c.is_negligible.ensures loop.invariant.2 c.size-below.ensures ∙ c.if-is_negligible.true)

pub loop-m-preserved : goal.loop-m-preserved
loop-m-preserved c = let loop = c.loop-m in
    let s = c.args.self.now in
    (omega arith, omega arith, c.size-below.ensures, passed s.n s.d.now s.e.now c.args.l loop.m (omega arith) loop.invariant.3 (said _ _ _ _ _ _ c.is_negligible.ensures loop.invariant.2 c.size-below.ensures ∙ c.if-is_negligible.false))

pub returns-clause-value : goal.returns-clause-value
returns-clause-value c = let loop = c.loop-m in
    let s = c.args.self.now in
    none s.n s.d.now s.e.now c.args.l loop.m (omega arith) (omega arith) loop.invariant.3
