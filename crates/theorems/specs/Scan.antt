-- Scanners that differ in sign or in unit (document 02, W-209): what is turned and what is scaled, the size rule, and the laws, as types. proofs/Turned.antt and
-- proofs/Scaled.antt prove them. e is the run of residuals; no law speaks of the columns. Definitions only. Assumes nothing.
use Rattle.std.specs.Prelude.{ℕ, ◌*◌, ◌≤◌, ◌<◌, ◌≡◌, ◌⊎◌, Bool, false, not, ◌&&◌, ◌||◌, List, map, T, eqb, ℤ, nat_abs, length, Float}
use Rattle.std.specs.Float.{fin}
use Rattle.std.specs.Float.Ieee.{up, down, neg, eq}
use Rattle.std.specs.Float.Ieee.Scale.{finite}
use Rattle.floats.specs.Words.{◌⊗◌, ◌‼◌, plus_zero}
use Rattle.floats.specs.Held.{all?, held?}
use Rattle.autocorrelation.specs.Statistic.{durbin_watson_answer}
use Rattle.autocorrelation.specs.Bound.{exact, numbers_sized?, differences_sized?}
use Rattle.outcome.specs.declared.Alternative.{Alternative}
use Rattle.outcome.specs.Rooms.{room_of, part_room, cleared_of}
use Rattle.dwtest.specs.Test.{test_of, touched}
use Rattle.outcome.specs.declared.Choice.{Choice}

-- every residual with its sign turned; a NaN stays the one NaN
abbrev pub turned : List Float → List Float
turned e = map neg e

-- 2^j: binary64 holds it for j from -1074 to 1023
abbrev pub power : ℤ → Float
power j = fin false 1 j

-- every residual times 2^j, each product rounded
abbrev pub scaled : ℤ → List Float → List Float
scaled j e = map (λ r. r ⊗ power j) e

-- demand 3's sizes reach from 2^-250 to 2^250, and powers from 2^-500 to 2^500: a residual that is not 0 and has such a size before and after has moved by no more
abbrev pub size_limit : ℕ
size_limit = 250

abbrev pub power_limit : ℕ
power_limit = 500

-- every residual is 0 or of such a size; demand 3's rule: so is every exact difference of neighbours. Both pass over a NaN and an infinity, of which `exact` is 0.
abbrev pub sized : List Float → Bool
sized e = numbers_sized? size_limit e

abbrev pub ruled : List Float → Bool
ruled e = sized e && differences_sized? size_limit e

-- every product with 2^j is exact in size; 2^j is up j / down j
abbrev pub exactly : ℤ → List Float → Bool
exactly j e = all? (length e) (λ t. eqb (nat_abs (exact (e ‼ t ⊗ power j)) * down j) (nat_abs (exact (e ‼ t)) * up j))

-- every residual that is finite is 0 or -0
abbrev pub zeros : List Float → Bool
zeros e = all? (length e) (λ t. eq (e ‼ t) plus_zero || not (finite (e ‼ t)))

-- the test tells e and e' apart by nothing: whatever the columns, the choices and the rooms are, it gives one result, every field, and leaves both rooms the same
abbrev pub Alike : List Float → List Float → Type 0
Alike e e' =
    (x : List Float) (k : ℕ) (a : Alternative) (c : Choice) (matrix parts : List Float)
    → (test_of e' x k a c (length matrix) (length parts) ≡ test_of e x k a c (length matrix) (length parts))
    × (cleared_of (touched e' x k c (length matrix) (length parts)) (room_of (length e')) matrix ≡ cleared_of (touched e x k c (length matrix) (length parts)) (room_of (length e)) matrix)
    × (cleared_of (touched e' x k c (length matrix) (length parts)) part_room parts ≡ cleared_of (touched e x k c (length matrix) (length parts)) part_room parts)

-- THE SIGN: for every input, turning the sign of all residuals changes nothing, in the statistic or its refusals and places, and so in the test
abbrev pub StatisticSignLaw : Type 0
StatisticSignLaw = (e : List Float) → durbin_watson_answer (turned e) ≡ durbin_watson_answer e

abbrev pub SignLaw : Type 0
SignLaw = (e : List Float) → Alike e (turned e)

-- THE UNIT: for residuals that meet the rule before and after, multiplying all by one power of two changes nothing. That binary64 holds a run of f64 (`held?`), `is_finite`
-- promises of each number, `first_bad` of a run of finite ones, `durbin_watson` of one that it sums, and `durbin_watson_test` of an accepted one.
-- Without the limit on j this is false: (2^-250, -2^-250) times 2^-900 rounds to (+0, -0), which meets the rule, and refusal 8 takes it (proofs/Limits.antt).
abbrev pub StatisticUnitLaw : Type 0
StatisticUnitLaw = (j : ℤ) (e : List Float) → nat_abs j ≤ power_limit → T (held? e) → T (ruled e) → T (ruled (scaled j e)) → durbin_watson_answer (scaled j e) ≡ durbin_watson_answer e

abbrev pub UnitLaw : Type 0
UnitLaw = (j : ℤ) (e : List Float) → nat_abs j ≤ power_limit → T (held? e) → T (ruled e) → T (ruled (scaled j e)) → Alike e (scaled j e)

-- the rule on differences is not needed for that
abbrev pub SizeUnitLaw : Type 0
SizeUnitLaw = (j : ℤ) (e : List Float) → nat_abs j ≤ power_limit → T (held? e) → T (sized e) → T (sized (scaled j e)) → Alike e (scaled j e)

-- nor the limit, where every product is exact: then a residual that is not 0 keeps within it by itself
abbrev pub ExactUnitLaw : Type 0
ExactUnitLaw = (j : ℤ) (e : List Float) → T (held? e) → T (exactly j e) → T (sized e) → T (sized (scaled j e)) → Alike e (scaled j e)

-- nor anything but that, where every finite residual is 0
abbrev pub ZeroUnitLaw : Type 0
ZeroUnitLaw = (j : ℤ) (e : List Float) → T (held? e) → T (zeros e) → Alike e (scaled j e)

-- THE REFUSALS OF SIZE: of a call that meets none of refusals 1 to 7, where the residuals are of such a size, refusal 8 is given exactly where all are 0 or -0, and 9 never
abbrev pub SizeRefusals : Type 0
SizeRefusals =
    (e x : List Float) (k : ℕ) (a : Alternative) (c : Choice) (m p : ℕ) → T (held? e) → T (sized e)
    → ((test_of e x k a c m p).refusal.number ≡ 0) ⊎ (7 < (test_of e x k a c m p).refusal.number)
    → (eqb (test_of e x k a c m p).refusal.number 8 ≡ zeros e) × (eqb (test_of e x k a c m p).refusal.number 9 ≡ false)
