-- `near`: what it ensures is Division.antt's, since the guess is good; here, that nothing overflows.
use Rattle.std.proofs.Common.{ℕ, arith}
use Rattle.roots.specs.Lines.{Good}
use Rattle.roots.proofs.Division.{left_below, quotient-below, root-is-near}
use Rattle.roots.proofs.near.near.Goals as goal

-- past the guess
module _ (c : goal.After-guess-g) where
  abbrev n : ℕ
  n = c.args.n

  abbrev g : ℕ
  g = c.guess-g.result

  good : Good n g
  good = c.guess-g.ensures

pub overflow_mul-long : goal.overflow_mul-long
overflow_mul-long c = omega (arith, left_below (n c) (g c) (good c), (good c).below)

pub overflow_sub-result : goal.overflow_sub-result
overflow_sub-result c = omega (arith, quotient-below (n c) (g c) (good c))

pub returns : goal.returns
returns c = root-is-near (n c) (g c) (good c)
