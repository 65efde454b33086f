use mathlib.Core.Path.{◌∙◌}
use Rattle.tridiagonal.proofs.ReflectionLaws.{correction-of}
use Rattle.tridiagonal.proofs.reflection.correct.Goals as goal

pub returns : goal.returns
returns c = c.take_multiple.ensures ∙ correction-of _ _ _ _ _ c.requires c.double_over.ensures c.sum_products.ensures
