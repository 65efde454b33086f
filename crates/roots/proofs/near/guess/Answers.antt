-- `guess`: that it is good is Guess.antt's; here, that nothing overflows.
use Rattle.std.proofs.Common.{◌≡◌, ℕ, ◌+◌, ◌*◌, ◌/◌, ◌%◌, ◌^◌, ◌<◌, ◌≤◌, sym, ap, subst, arith}
use lib.Bits.{bit_or, bit_xor}
use Rattle.roots.specs.Lines.{Good}
use Rattle.roots.proofs.LineLaws.{line_at, Inside, line-inside}
use Rattle.roots.proofs.Guess.{marked, guess_of, sum-range, guess-is-good}
use Rattle.roots.proofs.near.guess.Goals as goal

-- past the entry of the table
module _ (c : goal.After-line-l) where
  abbrev n : ℕ
  n = c.args.n

  abbrev l : ℕ
  l = c.line-l.result

  abbrev u : ℕ
  u = l + l % 4096 * (n / 2 ^ 39)

  from : 2 ^ 60 ≤ n
  from = c.requires.0

  below : n < 2 ^ 62
  below = c.requires.1

  line : u ≡ line_at n
  line = ap (λ (x : ℕ). x + x % 4096 * (n / 2 ^ 39)) c.line-l.ensures

  range : Inside n u
  range = rw line (line-inside n from below)

  sum : u + 4 * (bit_xor n 1 * 4 / u) < 2 ^ 34
  sum = rw line (sum-range n from below).1

pub overflow_add-u : goal.overflow_add-u
overflow_add-u c = omega (arith, (range c).most)

pub nonzero_div-q : goal.nonzero_div-q
nonzero_div-q c = omega (arith, (range c).from)

pub overflow_mul-result : goal.overflow_mul-result
overflow_mul-result c = omega (arith, sum c)

pub overflow_add-result : goal.overflow_add-result
overflow_add-result c = omega (arith, sum c)

pub returns : goal.returns
returns c = let g = guess-is-good (n c) (from c) (below c) in
    let e : bit_or ((u c + 4 * (bit_xor (n c) 1 * 4 / u c)) / 64) (2 ^ 27) ≡ guess_of (n c) = rw (line c) (marked (guess_of (n c)) g.from g.below) in
    subst (Good (n c)) (sym e) g
