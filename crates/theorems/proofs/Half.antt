-- Half the matrix room gives the same test: with room enough for the rule of specs/Full.antt, which wanted 2n² numbers, the answer and what is done to the rooms are as by
-- that rule, and n (n + 1) numbers are enough. One idea: of the matrix room only whether it suffices decides, so any two rooms that suffice decide alike. Assumes nothing.
use mathlib.Core.Path.{◌≡◌, refl, sym, ap, ◌∙◌}
use mathlib.Core.Bool.{Bool, true, false}
use Prim.Native.Nat.{ℕ, zero, suc, ◌≤◌}
use native.Mathlib.Nat.{le_refl, le_trans, le_of_suc-le-suc, not-suc-le-zero, le-mul_of_pos_right}
use native.Mathlib.Omega.{arith}
use mathlib.Core.List.{List, ◌∷◌, ◌++◌}
use lib.ListN.{length, take, drop, replicate, length-replicate}
use lib.Seq.{drop_at}
use lib.Ieee.{Float}
use borrow.Author.Tests.{le-ltb}
use Rattle.floats.specs.Words.{plus_zero}
use Rattle.outcome.specs.declared.Alternative.{Alternative}
use Rattle.outcome.specs.Refusals.{first_of}
use Rattle.outcome.specs.Rooms.{room_of, cleared_of}
use Rattle.dwtest.specs.Test.{design_of, test_with, touched_with, test_of, touched}
use Rattle.outcome.specs.declared.Choice.{Choice}
use Rattle.theorems.specs.Full.{full_room, full_test_of, full_touched}

-- n (n + 1) is at most 2n²
less : (n : ℕ) → room_of n ≤ full_room n
less zero = le_refl 0
less (suc n) = omega (arith, le-mul_of_pos_right {m = suc n} (suc n) (omega arith))

-- a run that begins with M numbers z begins with m of them, where m is at most M
alike-first : (m M : ℕ) (z : Float) (rest : List Float) → m ≤ M → take m (replicate M z ++ rest) ≡ replicate m z
alike-first zero M z rest h = refl
alike-first (suc m) zero z rest h = absurd (not-suc-le-zero h)
alike-first (suc m) (suc M) z rest h = ap (λ (l : List Float). z ∷ l) (alike-first m M z rest (le_of_suc-le-suc h))

module _ (e x : List Float) (k : ℕ) (alternative : Alternative) (choice : Choice) (part_room : ℕ) where
  abbrev n : ℕ
  n = length e

  -- any two rules and rooms, where each room suffices by its rule
  sufficient : (wanted wanted' : ℕ → ℕ) (room room' : ℕ) → wanted n ≤ room → wanted' n ≤ room'
      → (test_with wanted e x k alternative choice room part_room ≡ test_with wanted' e x k alternative choice room' part_room)
      × (touched_with wanted e x k choice room part_room ≡ touched_with wanted' e x k choice room' part_room)
  unfolding test_with touched_with design_of first_of
  sufficient wanted wanted' room room' h g = rw (le-ltb room (wanted n) h, le-ltb room' (wanted' n) g) (refl, refl)

  -- with 2n² numbers of matrix room or more, the test answers as before
  pub same_answer : (matrix_room : ℕ) → full_room n ≤ matrix_room → test_of e x k alternative choice matrix_room part_room ≡ full_test_of e x k alternative choice matrix_room part_room
  same_answer matrix_room h = (sufficient room_of full_room matrix_room matrix_room (le_trans (less n) h) h).0

  -- and it uses the rooms as before
  pub same-touched : (matrix_room : ℕ) → full_room n ≤ matrix_room → touched e x k choice matrix_room part_room ≡ full_touched e x k choice matrix_room part_room
  same-touched matrix_room h = (sufficient room_of full_room matrix_room matrix_room (le_trans (less n) h) h).1

  -- the matrix room after the call, now and by the rule before
  module _ (room : List Float) where
    abbrev pub after : List Float
    after = cleared_of (touched e x k choice (length room) part_room) (room_of n) room

    abbrev pub full_after : List Float
    full_after = cleared_of (full_touched e x k choice (length room) part_room) (full_room n) room

    -- its first n (n + 1) numbers are then as before
    pub same-front : full_room n ≤ length room → take (room_of n) after ≡ take (room_of n) full_after
    same-front h = rw (← same-touched (length room) h) (go (touched e x k choice (length room) part_room))
      where
        go : (used : Bool) → take (room_of n) (cleared_of used (room_of n) room) ≡ take (room_of n) (cleared_of used (full_room n) room)
        go false = refl
        go true = alike-first (room_of n) (room_of n) plus_zero (drop (room_of n) room) (le_refl (room_of n)) ∙ sym (alike-first (room_of n) (full_room n) plus_zero (drop (full_room n) room) (less n))

    -- and the numbers beyond n (n + 1) stay
    pub rest-stays : drop (room_of n) after ≡ drop (room_of n) room
    rest-stays = go (touched e x k choice (length room) part_room)
      where
        go : (used : Bool) → drop (room_of n) (cleared_of used (room_of n) room) ≡ drop (room_of n) room
        go false = refl
        go true = drop_at (replicate (room_of n) plus_zero) (drop (room_of n) room) (room_of n) (length-replicate (room_of n) plus_zero)

  -- with n (n + 1) numbers of matrix room or more, the test answers as before with 2n²
  pub less-room : (matrix_room : ℕ) → room_of n ≤ matrix_room → test_of e x k alternative choice matrix_room part_room ≡ full_test_of e x k alternative choice (full_room n) part_room
  less-room matrix_room h = (sufficient room_of full_room matrix_room (full_room n) h (le_refl (full_room n))).0
