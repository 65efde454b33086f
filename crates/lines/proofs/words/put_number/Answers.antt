-- One byte more behind the digits. Assumes nothing.
use mathlib.Core.Path.{refl}
use native.Mathlib.Omega.{arith}
use lib.Seq.{length-take-le}
use Rattle.lines.specs.Lines.{digits}
use Rattle.lines.proofs.DigitLaws.{length_digits}
use Rattle.lines.proofs.PutLaws.{front-after}
use Rattle.lines.proofs.words.put_number.Goals as goal

pub returns : goal.returns
returns c = let args = c.args in
    (refl, rw (c.put_digits.ensures, length-take-le args.k args.out.now (omega arith)) (front-after args.k (digits args.base args.k args.n) args.out.now args.after (length_digits args.base args.k args.n) (omega arith)))
