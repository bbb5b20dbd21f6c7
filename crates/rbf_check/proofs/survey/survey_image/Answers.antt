use Rattle.std.proofs.Common.{List, ℕ, subst}
use Rattle.rbf_check.specs.Verdict.{IsErrorOf}
use Rattle.rbf_check.proofs.Verdicts.{no_header, error_is, handed_on}
use Rattle.rbf_check.proofs.survey.survey_image.Goals as goal

pub returns-in_default-clause-fault : goal.returns-in_default-clause-fault
returns-in_default-clause-fault c = no_header c.args.image.now (λ header. c.in_default.ensures.none header)

pub returns-in_err-links-clause-fault : goal.returns-in_err-links-clause-fault
returns-in_err-links-clause-fault c =
    let q = c.from_residual-in_err-links in
    let error = c.in_err-links.field-0.0 in
    handed_on q.result _ (IsErrorOf c.args.image.now) q.ensures.1
    (subst (λ (bytes : List ℕ). IsErrorOf bytes error) c.in-Some.ensures.bytes (error_is c.in-Some.image error c.in_err-links.ensures.broken))
