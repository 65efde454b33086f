-- Two patterns that were asked for; a mark is the number of a bool. Assumes nothing.
use mathlib.Core.Path.{◌≡◌, refl}
use mathlib.Core.Bool.{Bool, true, false}
use mir.Val.{bool_byte}
use Rattle.lines.specs.Fields.{mark_of}
use Rattle.lines.proofs.fields_of.Goals as goal

mark-of : (b : Bool) → bool_byte b ≡ mark_of b
mark-of true = refl
mark-of false = refl

pub returns : goal.returns
returns c = rw (c.bits_of.ensures, c.bits_of-2.ensures, mark-of c.args.o.fallback, mark-of c.args.o.settled)
