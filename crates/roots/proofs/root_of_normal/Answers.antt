use Rattle.std.proofs.Common.{sym, ap, ◌∙◌, arith, rules}
use lib.Ieee.{binary64, to_bits}
use Rattle.roots.specs.Root.{root_of}
use Rattle.roots.proofs.Cases.{finite, normal, root-at}
use Rattle.roots.proofs.root_of_normal.Goals as goal

pub float_to_bits-x : goal.float_to_bits-x
float_to_bits-x c = finite c.args.x c.requires.1

pub returns : goal.returns
returns c =
    c.root_of.ensures ∙ ap root_of (normal (to_bits binary64 c.args.x) c.requires.0) ∙ sym (root-at c.args.x (search rules) (omega arith) c.requires.1)
