use Rattle.std.proofs.Common.{rules, ◌≡◌, Ok, Err, ap, ◌∙◌}
use Rattle.terms.specs.Replies.{viewed}
use Rattle.jobs.specs.Fulls.{state_in}
use Rattle.jobs.specs.Reads.{inputs_of}
use Rattle.jobs.specs.TextOpenings.{opened_as}
use Rattle.jobs.proofs.TextOpening.{pile_means, pile_same, opened_on}
use Rattle.jobs.proofs.inputs.open_texts.Goals as goal

pub returns-in_err-job : goal.returns-in_err-job
returns-in_err-job c =
    let i = c.in_ok-inputs.inputs in
    let told : viewed opened_as c.from_residual-in_err-job.result ≡ Err c.in_err-job.field-0.0 = search rules in
    let pile = ap pile_means c.pile-pile.ensures ∙ pile_same i.certificate in
    told ∙ opened_on c.args.rules.now c.args.certificate.now c.args.start.now c.args.grant.now (inputs_of i) _ (Err c.in_err-job.field-0.0) c.in_ok-inputs.ensures pile (search rules)

pub returns : goal.returns
returns c =
    let i = c.in_ok-inputs.inputs in
    let pile = ap pile_means c.pile-pile.ensures ∙ pile_same i.certificate in
    opened_on c.args.rules.now c.args.certificate.now c.args.start.now c.args.grant.now (inputs_of i) _ (Ok (state_in c.in_ok-job.job)) c.in_ok-inputs.ensures pile (search rules)
