-- `root_below`: the leading digits, and their root (Window.antt).
use Rattle.roots.proofs.Window.{window, root_below}
use Rattle.roots.proofs.two_squares.TwoSquares.root_below.Goals as goal

pub near-requires : goal.near-requires
near-requires c = let w = window c.leading-s.ensures in (w.from, w.below)

pub returns : goal.returns
returns c = root_below c.leading-s.ensures c.near.ensures
