-- Laws of the weights: the weights gathered so far with those still to come; the signs of no weight and of some. Assumes nothing.
use mathlib.Core.Path.{◌≡◌, refl, sym, ap, ◌∙◌}
use Prim.Native.Nat.{ℕ, suc, ◌+◌, ◌≤◌, ◌<◌}
use native.Mathlib.Numerals.{add-one}
use native.Mathlib.Nat.{suc-ne-zero}
use native.Mathlib.Omega.{arith}
use mathlib.Core.Bool.{Bool, true, false, cond}
use mathlib.Core.List.{List, [], ◌∷◌, ◌++◌, append_assoc, append-nil}
use lib.ListN.{length, take, drop, set, length-set, take-append-drop}
use lib.Seq.{drop-cons, drop-length, take-suc-set, drop-set-lt, drop-drop, length-take-le}
use lib.Ieee.{Float, nan, eq}
use Rattle.floats.specs.Words.{◌⊖◌, ◌‼◌, plus_zero}
use Rattle.weights.specs.Weights.{weights_of, all_above, all_below, none, signs_of, signs_by}

-- there are no more weights than eigenvalues
pub length-weights : (es : List Float) (d : Float) → length (weights_of es d) ≤ length es
unfolding weights_of
length-weights [] d = omega arith
length-weights (l ∷ ls) d = let h = length-weights ls d in go (eq (l ⊖ d) plus_zero) h
  where
    go : (b : Bool) → length (weights_of ls d) ≤ length ls → length (cond b (weights_of ls d) ((l ⊖ d) ∷ weights_of ls d)) ≤ suc (length ls)
    go true h = omega arith
    go false h = omega arith

-- With m weights gathered from the first t eigenvalues at the front of ws, what they are with those still to come, and what stands behind them.
abbrev pub Gathered : List Float → Float → List Float → List Float → ℕ → ℕ → Type 0
Gathered es d ws₀ ws m t = (m ≤ t) × (length ws ≡ length ws₀) × (take m ws ++ weights_of (drop t es) d ≡ weights_of es d) × (drop m ws ≡ drop m ws₀)

module _ (es : List Float) (d : Float) (ws₀ ws : List Float) (m t : ℕ) (here : t < length es) where
  -- a zero is passed over
  pub gathered-zero : eq (es ‼ t ⊖ d) plus_zero ≡ true → Gathered es d ws₀ ws m t → Gathered es d ws₀ ws m (t + 1)
  unfolding weights_of
  gathered-zero z g = (omega (arith, g.0), g.1, rw (add-one t) (rw (drop-cons es t nan here, z) at g.2), g.3)

  pub gathered-weight : m < length ws → eq (es ‼ t ⊖ d) plus_zero ≡ false → Gathered es d ws₀ ws m t → Gathered es d ws₀ (set ws m (es ‼ t ⊖ d)) (m + 1) (t + 1)
  unfolding weights_of
  gathered-weight room z g =
      let w : Float = es ‼ t ⊖ d in
      let front : take m ws ++ (w ∷ weights_of (drop (suc t) es) d) ≡ weights_of es d = rw (drop-cons es t nan here, z) at g.2 in
      let back : drop (suc m) (set ws m w) ≡ drop (suc m) ws₀ = drop-set-lt (suc m) ws m w (omega arith) ∙ rw (add-one m) at (sym (drop-drop 1 m ws) ∙ ap (drop 1) g.3 ∙ drop-drop 1 m ws₀) in
      (omega (arith, g.0), length-set ws m w ∙ g.1, rw (add-one m, add-one t, take-suc-set ws m w room, append_assoc) front, rw (add-one m) back)

-- once all eigenvalues are passed
pub gathered-all : (es : List Float) (d : Float) (ws₀ ws : List Float) (m : ℕ) → length es ≤ length ws₀ → Gathered es d ws₀ ws m (length es)
    → (m ≡ length (weights_of es d)) × (ws ≡ weights_of es d ++ drop (length (weights_of es d)) ws₀)
unfolding weights_of
gathered-all es d ws₀ ws m room g =
    let front : take m ws ≡ weights_of es d = sym (append-nil (take m ws)) ∙ rw (drop-length es) at g.2 in
    let count : m ≡ length (weights_of es d) = sym (length-take-le m ws (omega (arith, g.0, g.1))) ∙ ap length front in
    (count, sym (take-append-drop m ws) ∙ rw (front, g.3, count))

-- the signs of no weight, and of some
pub signs-none : (ws : List Float) → length ws ≡ 0 → signs_of ws ≡ none
signs-none [] h = refl
signs-none (w ∷ ws) h = absurd (suc-ne-zero (length ws) h)

pub signs-some : (ws : List Float) → (length ws ≡ 0 → ⊥) → signs_of ws ≡ signs_by (all_above ws) (all_below ws)
signs-some [] h = absurd (h refl)
signs-some (w ∷ ws) h = refl
