-- The sum so far is that of any function whose values the calls give. Assumes nothing.
use Rattle.std.proofs.Common.{◌≡◌, ℕ, ◌<◌, ◌≤◌, Float}
use Rattle.floats.specs.Sums.{sum_of}
use Rattle.design.proofs.tables.sum_of.Given as goal

abbrev pub invariant-loop-t : goal.invariant-loop-t
invariant-loop-t g l = (l.t ≤ l.n) × ((f : ℕ → Float) → ((t : ℕ) (x : Float) → t < l.n → goal.F-post g l.term t x → x ≡ f t) → l.s ≡ sum_of l.t f)
