use Rattle.std.proofs.Common.{rules}
use mathlib.Core.Path.{ap, ◌∙◌}
use Rattle.floats.specs.Tables.{table}
use Rattle.floats.proofs.TableLaws.{is-table}
use Rattle.projection.specs.Projection.{weight}
use Rattle.projection.proofs.Fit.weights.Goals as goal

pub returns : goal.returns
returns c = let s = c.args.self.now in
    let row = weight s.sheet.run.now s.inv.now s.sheet.size.rows s.sheet.size.columns c.args.i in
    is-table row _ _ c.update.ensures.kept (λ j h. search (rules, c.update.ensures.each j h)) ∙ ap (table row) c.requires.0
