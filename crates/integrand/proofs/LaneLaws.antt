-- Sixteen points at once. The largest of their u; the sums, one at each, and what is made of them; and of a weight w and a u above 0: where w times the largest u is near a point of the table, the angle of w u is that of |w| u with the sign of w, and both functions find a row. Assumes nothing.
use mathlib.Core.Path.{◌≡◌, refl, sym, ap, ◌∙◌, subst}
use mathlib.Core.Bool.{Bool, true, false, cond}
use mathlib.Core.List.{List, map}
use lib.Dec.{T}
use Prim.Native.Nat.{ℕ, ◌+◌, ◌<◌}
use native.Mathlib.Nat.{eq-or-lt_of_le}
use native.Mathlib.Omega.{arith}
use mathlib.Core.Logic.{⊎_elim}
use lib.Ieee.{Float, nan, neg, lt, le, is_nan}
use lib.ListN.{length}
use native.Mathlib.Numerals.{add-one}
use lib.Ieee.Bits.{is_true}
use Rattle.floats.specs.Words.{◌⊕◌, ◌⊗◌, ◌‼◌, square_of, plus_zero}
use Rattle.floats.specs.Signs.{minus}
use Rattle.elementary.specs.Near.{reach, angle_by, log_by}
use Rattle.elementary.specs.Atan.{atan_size, atan_by, atan_of}
use Rattle.elementary.specs.Ln.{ln1p_by, ln1p_of}
use Rattle.elementary.specs.Exp.{exp_of}
use Rattle.elementary.specs.Points.{points}
use Rattle.elementary.specs.Sin.{sin_of}
use Rattle.floats.specs.Sums.{sum_of}
use Rattle.floats.specs.Tables.{table}
use Rattle.floats.proofs.TableLaws.{get_d-table, table_same, map-table, table-run}
use Rattle.elementary.specs.Patterns.{half}
use Rattle.integrand.specs.Integrand.{quarter, integrand_of}
use Rattle.integrand.specs.Lanes.{added_to, Upto}
use Rattle.floats.proofs.Negatives.{neg-neg, minus-neg, product-neg, square-neg, product-plus}
use Rattle.floats.proofs.OrderLaws.{above-plus, above-number, up_to, up-to-self, not-below}
use Rattle.integrand.proofs.GrowthLaws.{below-largest, square-from, neg-minus, far-nan}

-- each of the first j numbers of a run is above 0 and at most r
abbrev pub UptoBy : List Float → ℕ → Float → Type 0
UptoBy us j r = (i : ℕ) → i < j → (lt plus_zero (us ‼ i) ≡ true) × (le (us ‼ i) r ≡ true)

module _ (us : List Float) (j : ℕ) (r : Float) (plus : minus r ≡ false) (number : is_nan r ≡ false) (all : UptoBy us j r) (above : lt plus_zero (us ‼ j) ≡ true) where
  -- number j above r takes its place
  pub upto-more : lt r (us ‼ j) ≡ true → UptoBy us (j + 1) (us ‼ j)
  upto-more k i h =
      ⊎_elim (λ e. rw e (above, up-to-self (us ‼ j) (above-number (us ‼ j) above)))
      (λ l. ((all i l).0, up_to (us ‼ i) r (us ‼ j) (above-plus (us ‼ i) (all i l).0) plus (all i l).1 k))
      (eq-or-lt_of_le {n = i} {m = j} (omega arith))

  -- and is passed over else
  pub upto-same : lt r (us ‼ j) ≡ false → UptoBy us (j + 1) r
  upto-same k i h =
      ⊎_elim (λ e. rw e (above, not-below r (us ‼ j) number (above-number (us ‼ j) above) k)) (λ l. all i l) (eq-or-lt_of_le {n = i} {m = j} (omega arith))

-- the size of a weight: without the sign b
abbrev pub size_of : Bool → Float → Float
size_of b w = cond b (neg w) w

-- the square of a product does not depend on the weight's sign
size-square : (b : Bool) (w u : Float) → square_of (size_of b w ⊗ u) ≡ square_of (w ⊗ u)
size-square false w u = refl
size-square true w u = ap square_of (product-neg w u) ∙ square-neg (w ⊗ u)

size-plus : (b : Bool) (w : Float) → minus w ≡ b → minus (size_of b w) ≡ false
size-plus false w h = h
size-plus true w h = minus-neg w h

module _ (w u most : Float) (above : lt plus_zero u ≡ true) (upto : le u most ≡ true) (near : T (lt (square_of (w ⊗ most)) reach)) where
  -- at u too the square is below the reach
  pub near-size : T (lt (square_of (size_of (minus w) w ⊗ u)) reach)
  near-size =
      below-largest (size_of (minus w) w) u most reach (size-plus (minus w) w refl) above upto
      (subst (λ (y : Float). T (lt y reach)) (sym (size-square (minus w) w most)) near)

  near-at : T (lt (square_of (w ⊗ u)) reach)
  near-at = subst (λ (y : Float). T (lt y reach)) (size-square (minus w) w u) near-size

  -- ln (1 + (w u)²)
  pub near-log : (ps : List Float) → log_by ps (square_of (size_of (minus w) w ⊗ u)) ≡ ln1p_by ps (square_of (w ⊗ u))
  unfolding ln1p_by
  near-log ps = rw (size-square (minus w) w u, square-from (w ⊗ u) reach near-at, is_true (lt (square_of (w ⊗ u)) reach) near-at)

  size-angle : (ps : List Float) (x : Float) → T (lt (square_of x) reach) → atan_size ps x ≡ angle_by ps x
  unfolding atan_size
  size-angle ps x h = rw (is_true (lt (square_of x) reach) h)

  -- atan (w u)
  pub near-angle : (ps : List Float) → cond (minus w) (neg (angle_by ps (size_of (minus w) w ⊗ u))) (angle_by ps (size_of (minus w) w ⊗ u)) ≡ atan_by ps (w ⊗ u)
  unfolding atan_by
  near-angle ps = go (minus w) refl near-size
    where
      go : (b : Bool) → minus w ≡ b → T (lt (square_of (size_of b w ⊗ u)) reach)
          → cond b (neg (angle_by ps (size_of b w ⊗ u))) (angle_by ps (size_of b w ⊗ u)) ≡ cond (minus (w ⊗ u)) (neg (atan_size ps (neg (w ⊗ u)))) (atan_size ps (w ⊗ u))
      go false h n = rw (product-plus w u h (above-plus u above)) (sym (size-angle ps (w ⊗ u) n))
      go true h n =
          let e : neg (w ⊗ u) ≡ neg w ⊗ u = sym (product-neg w u) in
          let m : minus (w ⊗ u) ≡ true = ap minus (sym (neg-neg (w ⊗ u)) ∙ ap neg e) ∙ neg-minus (neg w ⊗ u) reach (product-plus (neg w) u (minus-neg w h) (above-plus u above)) n in
          rw (m, e) (ap neg (sym (size-angle ps (neg w ⊗ u) n)))

module _ (w most : Float) (us : List Float) (upto : Upto us most) (near : T (lt (square_of (w ⊗ most)) reach)) (b : Bool) (sign : minus w ≡ b) where
  -- each u is above 0 and at most the largest: where that is a NaN nothing is near
  each : (j : ℕ) → j < 16 → (lt plus_zero (us ‼ j) ≡ true) × (le (us ‼ j) most ≡ true)
  each = ⊎_elim (λ h. absurd (far-nan w most reach h near)) (λ f. f) upto

  -- the size of the weight is near at every u
  pub lanes-near : (j : ℕ) → j < 16 → T (lt (square_of (size_of b w ⊗ us ‼ j)) reach)
  lanes-near j h = subst (λ (s : Bool). T (lt (square_of (size_of s w ⊗ us ‼ j)) reach)) sign (near-size w (us ‼ j) most (each j h).0 (each j h).1 near)

  -- the terms near points are the weight's terms
  pub lanes-angles : (sums : List Float) → added_to (λ x. cond b (neg (angle_by points (size_of b w ⊗ x))) (angle_by points (size_of b w ⊗ x))) us sums ≡ added_to (λ x. atan_of (w ⊗ x)) us sums
  unfolding atan_of
  lanes-angles sums =
      table_same _ _ 16
      (λ j h. ap (λ (y : Float). sums ‼ j ⊕ y)
      (subst (λ (s : Bool). cond s (neg (angle_by points (size_of s w ⊗ us ‼ j))) (angle_by points (size_of s w ⊗ us ‼ j)) ≡ atan_by points (w ⊗ us ‼ j)) sign (near-angle w (us ‼ j) most (each j h).0 (each j h).1 near points)))

  pub lanes-logs : (sums : List Float) → added_to (λ x. log_by points (square_of (size_of b w ⊗ x))) us sums ≡ added_to (λ x. ln1p_of (square_of (w ⊗ x))) us sums
  unfolding ln1p_of
  lanes-logs sums =
      table_same _ _ 16
      (λ j h. ap (λ (y : Float). sums ‼ j ⊕ y)
      (subst (λ (s : Bool). log_by points (square_of (size_of s w ⊗ us ‼ j)) ≡ ln1p_by points (square_of (w ⊗ us ‼ j))) sign (near-log w (us ‼ j) most (each j h).0 (each j h).1 near points)))

-- ---- the sums at sixteen points

-- the sums of the first t weights' terms, one at each u
abbrev pub sums_at : (Float → Float → Float) → List Float → List Float → ℕ → List Float
sums_at term ws us t = table (λ j. sum_of t (λ k. term (ws ‼ k) (us ‼ j))) 16

-- a weight's two terms at u
abbrev pub angle_term : Float → Float → Float
angle_term w u = atan_of (w ⊗ u)

abbrev pub log_term : Float → Float → Float
log_term w u = ln1p_of (square_of (w ⊗ u))

-- one weight more
pub sums-more : (term : Float → Float → Float) (ws us : List Float) (t : ℕ) → added_to (term (ws ‼ t)) us (sums_at term ws us t) ≡ sums_at term ws us (t + 1)
unfolding sum_of
sums-more term ws us t =
    table_same _ _ 16
    (λ j h. rw (add-one t) (ap (λ (x : Float). x ⊕ term (ws ‼ t) (us ‼ j)) (get_d-table (λ i. sum_of t (λ k. term (ws ‼ k) (us ‼ i))) 16 j nan h)))

module _ (ws ss : List Float) (sixteen : length ss ≡ 16) where
  -- e ^ s at each s
  abbrev pub us_of : List Float
  us_of = table (λ j. exp_of (ss ‼ j)) 16

  -- of all weights' sums at these u the integrand at each s is made
  pub lanes-closed : table (λ j. sin_of (half ⊗ sums_at angle_term ws us_of (length ws) ‼ j) ⊗ table (λ i. exp_of (neg (quarter ⊗ sums_at log_term ws us_of (length ws) ‼ i))) 16 ‼ j) 16 ≡ map (integrand_of ws) ss
  unfolding integrand_of
  lanes-closed = table_same _ _ 16 at_each ∙ sym (map-table (integrand_of ws) (λ j. ss ‼ j) 16) ∙ ap (map (integrand_of ws)) (ap (table (λ j. ss ‼ j)) (sym sixteen) ∙ table-run ss)
    where
      closed : Float → Float
      closed u = sin_of (half ⊗ sum_of (length ws) (λ k. angle_term (ws ‼ k) u)) ⊗ exp_of (neg (quarter ⊗ sum_of (length ws) (λ k. log_term (ws ‼ k) u)))

      at_each : (j : ℕ) → j < 16
          → sin_of (half ⊗ sums_at angle_term ws us_of (length ws) ‼ j) ⊗ table (λ i. exp_of (neg (quarter ⊗ sums_at log_term ws us_of (length ws) ‼ i))) 16 ‼ j ≡ closed (exp_of (ss ‼ j))
      at_each j h =
          rw (get_d-table (λ i. sum_of (length ws) (λ k. angle_term (ws ‼ k) (us_of ‼ i))) 16 j nan h, get_d-table (λ i. exp_of (neg (quarter ⊗ sums_at log_term ws us_of (length ws) ‼ i))) 16 j nan h, get_d-table (λ i. sum_of (length ws) (λ k. log_term (ws ‼ k) (us_of ‼ i))) 16 j nan h)
          (ap closed (get_d-table (λ i. exp_of (ss ‼ i)) 16 j nan h))
