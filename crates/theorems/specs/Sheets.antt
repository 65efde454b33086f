-- Document 01's sheets worked by hand, and what is told of an answer: number and place of a refusal, statistic, p and path. Definitions only. Assumes nothing.
use Rattle.std.specs.Prelude.{ℕ, true, List, [], ◌∷◌, replicate, Float}
use Rattle.std.specs.Float.{nan, inf}
use Rattle.floats.specs.Words.{float, plus_zero, one}
use Rattle.outcome.specs.declared.Alternative.{Alternative}
use Rattle.outcome.specs.declared.Alternative.TheVariants.{Greater}
use Rattle.dwtest.specs.Test.{test_of}
use Rattle.outcome.specs.declared.Outcome.{Outcome}
use Rattle.outcome.specs.declared.Choice.{Choice}
use Rattle.outcome.specs.declared.Choice.TheVariants.{Default, Exact, Normal}

-- residuals, k columns in one run, the alternative, the choice, and the lengths of both rooms
pub record Sheet : Type 0 where
  pub residuals : List Float
  pub columns : List Float
  pub count : ℕ
  pub alternative : Alternative
  pub choice : Choice
  pub matrix_room : ℕ
  pub part_room : ℕ

-- a sheet with rooms for 256 rows
abbrev pub sheet : List Float → List Float → ℕ → Alternative → Choice → Sheet
sheet e x k a c = record { residuals = e; columns = x; count = k; alternative = a; choice = c; matrix_room = 65792; part_room = 8004 }

pub record Answer : Type 0 where
  pub number : ℕ
  pub place : ℕ
  pub statistic : Float
  pub p : Float
  pub path : ℕ

abbrev pub refused : ℕ → ℕ → Answer
refused i j = record { number = i; place = j; statistic = plus_zero; p = plus_zero; path = 0 }

abbrev pub answered : Float → Float → ℕ → Answer
answered d p path = record { number = 0; place = 0; statistic = d; p = p; path = path }

abbrev pub told : Outcome → Answer
told o = record { number = o.refusal.number; place = o.refusal.place; statistic = o.statistic; p = o.p; path = o.path }

-- the test's outcome for a sheet, and what is told of it
abbrev pub outcome_of : Sheet → Outcome
outcome_of s = test_of s.residuals s.columns s.count s.alternative s.choice s.matrix_room s.part_room

abbrev pub answer_to : Sheet → Answer
answer_to s = told (outcome_of s)

-- -1, 1e200 and 2^-515
abbrev pub minus_one : Float
minus_one = float 0xbff0000000000000

abbrev pub large : Float
large = float 0x6974e718d7d7625a

abbrev pub faint : Float
faint = float 0x1fc0000000000000

-- a column of n ones
abbrev pub ones : ℕ → List Float
ones n = replicate n one

-- the first four of five unit vectors
abbrev pub vectors : List Float
vectors =
    one ∷ plus_zero ∷ plus_zero ∷ plus_zero ∷ plus_zero ∷
    plus_zero ∷ one ∷ plus_zero ∷ plus_zero ∷ plus_zero ∷
    plus_zero ∷ plus_zero ∷ one ∷ plus_zero ∷ plus_zero ∷
    plus_zero ∷ plus_zero ∷ plus_zero ∷ one ∷ plus_zero ∷ []

-- P1 to P12. P2 to P5 are asked by the normal path, so that the table is worked out at once; the statistic is the same by every path (Accepted's statistic-is).
abbrev pub hand-worked : List Sheet
hand-worked =
    sheet (one ∷ minus_one ∷ []) (ones 2) 1 Greater Default
    ∷ sheet (one ∷ minus_one ∷ one ∷ minus_one ∷ []) (ones 4) 1 Greater Normal
    ∷ sheet (one ∷ one ∷ minus_one ∷ minus_one ∷ []) (ones 4) 1 Greater Normal
    ∷ sheet (one ∷ one ∷ plus_zero ∷ []) (ones 3) 1 Greater Normal
    ∷ sheet (plus_zero ∷ one ∷ plus_zero ∷ []) (ones 3) 1 Greater Normal
    ∷ sheet (one ∷ minus_one ∷ []) [] 0 Greater Default
    ∷ sheet (one ∷ []) (ones 1) 1 Greater Default
    ∷ sheet (plus_zero ∷ plus_zero ∷ []) (ones 2) 1 Greater Default
    ∷ sheet (large ∷ large ∷ []) (ones 2) 1 Greater Default
    ∷ sheet (one ∷ minus_one ∷ []) (ones 4) 2 Greater Default
    ∷ sheet (plus_zero ∷ plus_zero ∷ plus_zero ∷ plus_zero ∷ one ∷ []) vectors 4 Greater Normal
    ∷ sheet (one ∷ minus_one ∷ []) (faint ∷ faint ∷ []) 1 Greater Default
    ∷ []

-- an input for each of the fourteen numbers, in their order, and then for the second places of 2 and of 12
abbrev pub refusals : List Sheet
refusals =
    sheet (one ∷ minus_one ∷ []) [] 0 Greater Default
    ∷ sheet (replicate 257 one) [] 1 Greater Default
    ∷ sheet (one ∷ minus_one ∷ []) (ones 3) 1 Greater Default
    ∷ sheet (one ∷ minus_one ∷ []) (one ∷ nan ∷ []) 1 Greater Default
    ∷ sheet [] [] 1 Greater Default
    ∷ sheet (one ∷ []) (ones 1) 1 Greater Default
    ∷ sheet (one ∷ minus_one ∷ inf true ∷ []) (ones 3) 1 Greater Default
    ∷ sheet (plus_zero ∷ plus_zero ∷ []) (ones 2) 1 Greater Default
    ∷ sheet (large ∷ large ∷ []) (ones 2) 1 Greater Default
    ∷ sheet (one ∷ minus_one ∷ []) (ones 4) 2 Greater Default
    ∷ sheet (one ∷ minus_one ∷ plus_zero ∷ []) (ones 6) 2 Greater Default
    ∷ record { residuals = one ∷ minus_one ∷ plus_zero ∷ []; columns = ones 3; count = 1; alternative = Greater; choice = Exact; matrix_room = 11; part_room = 8004 }
    ∷ sheet (one ∷ minus_one ∷ []) (faint ∷ faint ∷ []) 1 Greater Default
    ∷ sheet (plus_zero ∷ plus_zero ∷ plus_zero ∷ plus_zero ∷ one ∷ []) vectors 4 Greater Normal
    ∷ sheet (one ∷ minus_one ∷ []) [] 9 Greater Default
    ∷ record { residuals = one ∷ minus_one ∷ plus_zero ∷ []; columns = ones 3; count = 1; alternative = Greater; choice = Exact; matrix_room = 12; part_room = 8003 }
    ∷ []
