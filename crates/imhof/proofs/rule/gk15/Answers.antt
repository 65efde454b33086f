use mathlib.Core.Path.{◌∙◌}
use Rattle.imhof.specs.Integrand.{integrand_of}
use Rattle.imhof.specs.Rule.{middle_of}
use Rattle.imhof.proofs.RuleLaws.{rule-reads}
use Rattle.imhof.proofs.rule.gk15.Goals as goal

pub returns : goal.returns
returns c = let s = c.args in
    let f = integrand_of s.weights.now in
    c.gathered.ensures ∙ rw (c.integrands.ensures, c.laid-f.ensures) (rule-reads f s.a s.b (f (middle_of s.a s.b)))
