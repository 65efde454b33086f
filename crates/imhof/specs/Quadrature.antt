-- What a quadrature gives. Definitions only. Assumes nothing.
use Rattle.std.specs.Prelude.{Result, Err}
use Rattle.imhof.specs.declared.Integral.{Integral}
use Rattle.imhof.specs.declared.NotFinite.{NotFinite}

-- an integral, or that a number was not finite on the way
abbrev pub Quadrature : Type 0
Quadrature = Result Integral NotFinite

abbrev pub broken : Quadrature
broken = Err (record {})
