-- Of the part room only the first part_room numbers change: at most most_parts parts are laid out in it. Assumes nothing.
use mathlib.Core.Path.{◌≡◌, refl, sym, ◌∙◌, subst}
use mathlib.Core.Bool.{Bool, true, false, ◌&&◌}
use Prim.Native.Nat.{ℕ, ◌+◌, ◌≤◌, ◌<◌}
use native.Mathlib.Omega.{arith}
use mathlib.Core.List.{List}
use lib.ListN.{length, drop, set}
use lib.Seq.{drop-set-lt}
use lib.Ieee.{Float}
use lib.Ieee.Scale.{finite}
use Rattle.floats.proofs.TurnLaws.{turns-keep}
use Rattle.weights.specs.Weights.{Signs, none, above, below, mixed, signs_of, weights_of}
use Rattle.weights.specs.Range.{low_end, high_end}
use Rattle.imhof.specs.declared.Part.{Part}
use Rattle.imhof.specs.Integrand.{integrand_of}
use Rattle.imhof.specs.Rule.{gk15_of}
use Rattle.imhof.specs.Parts.{most_bisections, most_parts, part_at, finite_part, stage_after}
use Rattle.imhof.specs.Room.{part_room, left_ends, right_ends, values, errors, stored, laid_out}
use Rattle.imhof.specs.Imhof.{last_stage_by, outcome_by, imhof_of}
use Rattle.imhof.proofs.HeldLaws.{first-refused}
use Rattle.imhof.proofs.Tiling.{counted}

stored-within : (i : ℕ) (p : Part) (r : List Float) → i < most_parts → drop part_room (stored i p r) ≡ drop part_room r
unfolding stored
stored-within i p r h =
    let a : left_ends + i < part_room = omega arith in
    let b : right_ends + i < part_room = omega arith in
    let c : values + i < part_room = omega arith in
    let d : errors + i < part_room = omega arith in
    rw (drop-set-lt part_room (set (set (set r (left_ends + i) p.lo) (right_ends + i) p.hi) (values + i) p.value) (errors + i) p.error d, drop-set-lt part_room (set (set r (left_ends + i) p.lo) (right_ends + i) p.hi) (values + i) p.value c, drop-set-lt part_room (set r (left_ends + i) p.lo) (right_ends + i) p.hi b, drop-set-lt part_room r (left_ends + i) p.lo a)

laid-within : (ps : List Part) (r : List Float) → length ps ≤ most_parts → drop part_room (laid_out ps r) ≡ drop part_room r
unfolding laid_out
laid-within ps r h = turns-keep (λ i. stored i (part_at ps i)) (λ z. drop part_room z ≡ drop part_room r) (length ps) (λ i s l e. stored-within i (part_at ps i) s (omega arith) ∙ e) r refl

-- at most most_parts parts
stage-few : (f : Float → Float) (a b : Float) → length (stage_after most_bisections f a b).parts ≤ most_parts
stage-few f a b = go (finite_part (gk15_of f a b)) refl
  where
    go : (fine : Bool) → finite_part (gk15_of f a b) ≡ fine → length (stage_after most_bisections f a b).parts ≤ most_parts
    go true h = let r = counted f a b h most_bisections in omega (arith, r.0, r.2)
    go false h = subst (λ s. length s.parts ≤ most_parts) (sym (first-refused f a b h)) (omega arith)

few-parts : (ws : List Float) (d : Float) → length (imhof_of ws d).parts ≤ most_parts
unfolding imhof_of
few-parts es d = go (signs_of (weights_of es d)) (weights_of es d)
  where
    last : (b : Bool) (ws : List Float) → length (last_stage_by b ws).parts ≤ most_parts
    last true ws = stage-few (integrand_of ws) (low_end ws) (high_end ws)
    last false ws = omega arith

    go : (s : Signs) (ws : List Float) → length (outcome_by s ws).parts ≤ most_parts
    go none ws = omega arith
    go above ws = omega arith
    go below ws = omega arith
    go mixed ws = last (finite (low_end ws) && finite (high_end ws)) ws

pub beyond-stays : (ws : List Float) (d : Float) (room : List Float) → drop part_room (laid_out (imhof_of ws d).parts room) ≡ drop part_room room
beyond-stays ws d room = laid-within (imhof_of ws d).parts room (few-parts ws d)
