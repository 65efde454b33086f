-- `horner`: the rule is a fold over the further coefficients.
use Rattle.std.proofs.Common.{◌≡◌, List, [], ◌∷◌, fold, refl, ◌∙◌, rules, ap}
use Rattle.std.proofs.iter.runs.Made.{chains}
use Rattle.std.specs.List.{reduce}
use Rattle.std.specs.Option.{unwrap_or}
use lib.Ieee.{Float}
use Rattle.floats.specs.Words.{◌⊕◌, ◌⊗◌, plus_zero}
use Rattle.elementary.specs.Horner.{horner_from, horner}
use Rattle.elementary.proofs.polynomials.horner.Goals as goal

folded : (p x : Float) (cs : List Float) → fold (λ q c. q ⊗ x ⊕ c) p cs ≡ horner_from p cs x
folded p x [] = refl
folded p x (c ∷ cs) = folded (p ⊗ x ⊕ c) x cs

reduced : (table : List Float) (x : Float) → unwrap_or (reduce (λ q c. q ⊗ x ⊕ c) table) plus_zero ≡ horner table x
reduced [] x = refl
reduced (c ∷ cs) x = folded c x cs

pub returns : goal.returns
returns c =
    let e : c.reduce.result ≡ reduce (λ q d. q ⊗ c.args.x ⊕ d) c.args.table.now = search (rules, chains) in
    c.unwrap_or.ensures ∙ ap (λ o. unwrap_or o plus_zero) e ∙ reduced c.args.table.now c.args.x
