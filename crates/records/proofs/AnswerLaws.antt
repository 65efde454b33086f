-- What the quadrature over records answers and leaves, by whether the list is long enough. Assumes nothing.
use mathlib.Core.Path.{◌≡◌, sym, ap, ◌∙◌}
use mathlib.Core.List.{List, ◌++◌}
use Prim.Native.Nat.{ℕ, ◌≤◌, ◌<◌}
use lib.ListN.{length, drop, replicate}
use lib.Ieee.{Float}
use borrow.Author.Tests.{lt-ltb, le-ltb}
use Rattle.imhof.specs.declared.Part.{Part}
use Rattle.std.specs.Prelude.{Result, Err}
use Rattle.imhof.specs.declared.Integral.{Integral}
use Rattle.imhof.specs.Quadrature.{Quadrature}
use Rattle.imhof.specs.Imhof.{quadrature_of}
use Rattle.imhof.specs.Integrand.{integrand_of}
use Rattle.imhof.specs.Parts.{most_bisections, most_parts, stage_after}
use Rattle.records.specs.declared.RecordsError.{RecordsError}
use Rattle.records.specs.declared.RecordsError.TheVariants.{RoomShort}
use Rattle.records.specs.Records.{zero_part}
use Rattle.records.specs.Answer.{answer_of, told_of, cleared_of}

module _ (n : ℕ) (q : Quadrature) where
  pub answer-short : n < most_parts → Err RoomShort ≡ answer_of n q
  answer-short h = rw (lt-ltb n most_parts h)

  pub answer-found : most_parts ≤ n → told_of q ≡ answer_of n q
  answer-found h = rw (le-ltb n most_parts h)

module _ (ps : List Part) where
  pub left-short : length ps < most_parts → ps ≡ cleared_of ps
  left-short h = rw (lt-ltb (length ps) most_parts h)

  pub left-cleared : most_parts ≤ length ps → replicate most_parts zero_part ++ drop most_parts ps ≡ cleared_of ps
  left-cleared h = rw (le-ltb (length ps) most_parts h)

-- ---- against the four-run form
-- Whatever answer the promise of imhof's `integrate` over four runs allows, begun with no work, and whatever answer that of `quadrature` over n records does, n at least most_parts: the
-- second is the first, value, error, bisections, evaluations, and whether a number was not finite.
pub as-four-runs : (ws : List Float) (lo hi : Float) (n : ℕ) (four : Quadrature) (r : Result Integral RecordsError) → most_parts ≤ n → four ≡ quadrature_of (stage_after most_bisections (integrand_of ws) lo hi)
    → r ≡ answer_of n (quadrature_of (stage_after most_bisections (integrand_of ws) lo hi)) → r ≡ told_of four
as-four-runs ws lo hi n four r h p q = q ∙ sym (answer-found n (quadrature_of (stage_after most_bisections (integrand_of ws) lo hi)) h) ∙ ap told_of (sym p)

-- ---- any two outcomes that the promise of `quadrature` allows are one and the same
pub one_answer : (n : ℕ) (q : Quadrature) (r s : Result Integral RecordsError) → r ≡ answer_of n q → s ≡ answer_of n q → r ≡ s
one_answer n q r s p o = p ∙ sym o

pub one_list : (ps l m : List Part) → l ≡ cleared_of ps → m ≡ cleared_of ps → l ≡ m
one_list ps l m p o = p ∙ sym o
