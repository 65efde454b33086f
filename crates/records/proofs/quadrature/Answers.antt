-- The list is too short, or the answer is the four-run form's (SameAnswer) and the first records are cleared, the others as they were (AnswerLaws).
use Rattle.std.proofs.Common.{◌≡◌, ◌++◌, ◌≤◌, List, length, replicate, drop, ap, ◌∙◌, arith}
use Rattle.std.specs.Prelude.{Ok, Err, Float}
use Rattle.std.proofs.lemmas.Result.{err_from_is_err_and}
use Rattle.imhof.specs.declared.Part.{Part}
use Rattle.imhof.specs.Integrand.{integrand_of}
use Rattle.imhof.specs.Imhof.{quadrature_of}
use Rattle.imhof.specs.Parts.{most_bisections, most_parts, stage_after}
use Rattle.imhof.specs.Quadrature.{Quadrature}
use Rattle.records.specs.Answer.{answer_of, told_of, cleared_of}
use Rattle.records.specs.Records.{zero_part, found_of, work_after}
use Rattle.records.proofs.AnswerLaws.{answer-found, left-cleared}
use Rattle.records.proofs.WorkLaws.{kept}
use Rattle.records.proofs.SameAnswer.{same_answer}
use Rattle.records.proofs.quadrature.Goals as goal

module _ (f : Float → Float) (lo hi : Float) (ys : List Part) (within : most_parts ≤ length ys) where
  -- what a quadrature over the records finds is told as the answer
  is-told : (q : Quadrature) → q ≡ found_of (work_after most_parts f lo hi ys) → told_of q ≡ answer_of (length ys) (quadrature_of (stage_after most_bisections f lo hi))
  is-told q e = ap told_of (e ∙ same_answer f lo hi ys within) ∙ answer-found (length ys) (quadrature_of (stage_after most_bisections f lo hi)) within

  is-left : (ps : List Part) → ps ≡ replicate most_parts zero_part ++ drop most_parts (work_after most_parts f lo hi ys).records → ps ≡ cleared_of ys
  is-left ps e = e ∙ ap (λ (l : List Part). replicate most_parts zero_part ++ l) ((kept f lo hi ys most_parts).1) ∙ left-cleared ys within

pub returns-in_err-found : goal.returns-in_err-found
returns-in_err-found c =
    let f = integrand_of c.args.weights.now in
    let ys = c.args.parts.now in
    let within : most_parts ≤ length ys = omega arith in
    let p = err_from_is_err_and c.from_residual.result c.from_residual.ensures.1 in (
      p.1 ∙ ap Err p.2 ∙ is-told f c.args.lo c.args.hi ys within (Err c.in_err-found.field-0.0) c.in_err-found.ensures.value,
      is-left f c.args.lo c.args.hi ys within c.clear.new.parts (c.clear.ensures ∙ ap (λ (l : List Part). replicate most_parts zero_part ++ drop most_parts l) c.refine-found.ensures.parts_after),
    )

pub returns : goal.returns
returns c =
    let f = integrand_of c.args.weights.now in
    let ys = c.args.parts.now in
    let within : most_parts ≤ length ys = omega arith in (
      is-told f c.args.lo c.args.hi ys within (Ok c.in_ok-found.field-0) c.in_ok-found.ensures.value,
      is-left f c.args.lo c.args.hi ys within c.clear.new.parts (c.clear.ensures ∙ ap (λ (l : List Part). replicate most_parts zero_part ++ drop most_parts l) c.refine-found.ensures.parts_after),
    )
