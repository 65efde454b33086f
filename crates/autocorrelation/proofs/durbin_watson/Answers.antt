-- That binary64 holds the run is told by the search for a bad number, and what is sure of a statistic follows (Theorems). Assumes nothing.
use mathlib.Core.Path.{sym}
use lib.Dec.{T}
use Rattle.std.proofs.Common.{rules}
use Rattle.floats.specs.Held.{held?}
use Rattle.autocorrelation.specs.Statistic.{durbin_watson_answer}
use Rattle.autocorrelation.proofs.Theorems.{sure}
use Rattle.autocorrelation.proofs.durbin_watson.Goals as goal

pub returns-clause-value : goal.returns-clause-value
unfolding durbin_watson_answer
returns-clause-value c = search rules

pub returns-clause-told : goal.returns-clause-told
returns-clause-told c =
    let held : T (held? c.args.residuals.now) = search rules in
    sure c.args.residuals.now _ (sym (returns-clause-value c)) held
