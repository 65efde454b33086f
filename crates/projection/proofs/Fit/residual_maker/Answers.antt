-- The three steps one after another: X (X'X)^-1 X', its opposite, 1 added along the diagonal. Assumes nothing.
use mathlib.Core.Path.{◌∙◌}
use Rattle.projection.proofs.IdentityLaws.{identified}
use Rattle.projection.proofs.ProjectionLaws.{residual-of}
use Rattle.projection.proofs.Fit.residual_maker.Goals as goal

pub returns : goal.returns
unfolding identified
returns c = let args = c.args in
    c.add_identity.ensures ∙ residual-of args.self.now.sheet.run.now args.self.now.inv.now args.self.now.sheet.size.rows args.self.now.sheet.size.columns _ _ c.hat.ensures c.negate.ensures
