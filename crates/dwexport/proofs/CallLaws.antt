-- A call case by case: refused for its result's length or a code, or answered. Assumes nothing.
use Prim.Native.Nat.{ℕ, ◌<◌, ◌≤◌}
use native.Mathlib.Omega.{arith}
use mathlib.Core.Path.{◌≡◌, refl, sym, ◌∙◌}
use mathlib.Core.Bool.{Bool, true, false}
use mathlib.Core.List.{List}
use lib.Dec.{eqb, ltb}
use lib.ListN.{length}
use lib.Ieee.{Float}
use borrow.Author.Tests.{eqb-true, ltb-true, lt-ltb}
use Rattle.outcome.specs.Codes.{alternative_of, choice_of}
use Rattle.outcome.specs.Rooms.{room_of, part_room, cleared_of}
use Rattle.dwtest.specs.Test.{test_of, touched}
use Rattle.lines.specs.Fields.{words_of, word_count}
use Rattle.dwexport.specs.Call.{status_of, result_of, matrix_after, parts_after}

-- a code that is one of 0, 1, 2
pub known : (code : ℕ) → code ≤ 2 → ltb code 3 ≡ true
known code h = lt-ltb code 3 (omega (arith, h))

-- by length and codes
pub length-wrong : (w a c : ℕ) → eqb w word_count ≡ false → status_of w a c ≡ 1
length-wrong w a c h = rw h

pub alternative-wrong : (w a c : ℕ) → eqb w word_count ≡ true → ltb a 3 ≡ false → status_of w a c ≡ 2
alternative-wrong w a c h q = rw (h, q)

pub choice-wrong : (w a c : ℕ) → eqb w word_count ≡ true → ltb a 3 ≡ true → ltb c 3 ≡ false → status_of w a c ≡ 3
choice-wrong w a c h q r = rw (h, q, r)

pub nothing-wrong : (w a c : ℕ) → eqb w word_count ≡ true → ltb a 3 ≡ true → ltb c 3 ≡ true → status_of w a c ≡ 0
nothing-wrong w a c h q r = rw (h, q, r)

-- and back: status 0 means that nothing is wrong
status-zero : (w a c : ℕ) (s t u : Bool) → eqb w word_count ≡ s → ltb a 3 ≡ t → ltb c 3 ≡ u → status_of w a c ≡ 0 → (w ≡ word_count) × (a < 3) × (c < 3)
status-zero w a c false t u h q r z = absurd (omega (arith, sym z ∙ length-wrong w a c h))
status-zero w a c true false u h q r z = absurd (omega (arith, sym z ∙ alternative-wrong w a c h q))
status-zero w a c true true false h q r z = absurd (omega (arith, sym z ∙ choice-wrong w a c h q r))
status-zero w a c true true true h q r z = (eqb-true w word_count h, ltb-true a 3 q, ltb-true c 3 r)

pub answered-when : (w a c : ℕ) → status_of w a c ≡ 0 → (w ≡ word_count) × (a < 3) × (c < 3)
answered-when w a c = status-zero w a c (eqb w word_count) (ltb a 3) (ltb c 3) refl refl refl

module _ (e x : List Float) (k alternative choice : ℕ) (matrix parts : List Float) (result : List ℕ) where
  -- a refused call leaves all as it was
  pub refused-leaves : eqb (status_of (length result) alternative choice) 0 ≡ false
      → (result ≡ result_of e x k alternative choice matrix parts result) × (matrix ≡ matrix_after e x k alternative choice matrix parts result)
      × (parts ≡ parts_after e x k alternative choice matrix parts result)
  refused-leaves h = rw h (refl, refl, refl)

  -- an answered call gives the test's words and leaves the rooms as the test does
  pub answered-gives : eqb (status_of (length result) alternative choice) 0 ≡ true
      → (words_of (test_of e x k (alternative_of alternative) (choice_of choice) (length matrix) (length parts))
      ≡ result_of e x k alternative choice matrix parts result)
      × (cleared_of (touched e x k (choice_of choice) (length matrix) (length parts)) (room_of (length e)) matrix
      ≡ matrix_after e x k alternative choice matrix parts result)
      × (cleared_of (touched e x k (choice_of choice) (length matrix) (length parts)) part_room parts ≡ parts_after e x k alternative choice matrix parts result)
  answered-gives h = rw h (refl, refl, refl)

  -- any two outcomes that the promise allows are one: the return value, the result's words and both rooms
  abbrev pub Promised : ℕ → List ℕ → List Float → List Float → Type 0
  Promised r words m p =
      (r ≡ status_of (length result) alternative choice) ×
      (words ≡ result_of e x k alternative choice matrix parts result) ×
      (m ≡ matrix_after e x k alternative choice matrix parts result) ×
      (p ≡ parts_after e x k alternative choice matrix parts result)

  pub one-call : (r s : ℕ) (w w' : List ℕ) (m m' p p' : List Float) → Promised r w m p → Promised s w' m' p' → (r ≡ s) × (w ≡ w') × (m ≡ m') × (p ≡ p')
  one-call r s w w' m m' p p' f g = (f.0 ∙ sym g.0, f.1 ∙ sym g.1, f.2 ∙ sym g.2, f.3 ∙ sym g.3)
