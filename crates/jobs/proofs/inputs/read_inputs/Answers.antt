use Rattle.std.proofs.Common.{rules, ◌≡◌, Ok, Err, sym, ap, ◌∙◌}
use Rattle.bounded.specs.Items.{items}
use Rattle.terms.specs.Models.{arities_of}
use Rattle.terms.specs.Replies.{viewed}
use Rattle.texts.specs.Systems.{said_of}
use Rattle.certificates.specs.Certificates.{parts_of}
use Rattle.certificates.specs.Meanings.{algebras_of}
use Rattle.jobs.specs.declared.fault.OpenFault.TheVariants.{Text, Certificate}
use Rattle.jobs.specs.Reads.{signature_said, inputs_of}
use Rattle.jobs.proofs.Reading.{signature_is, no_certificate, no_term, all_read}
use Rattle.jobs.proofs.inputs.read_inputs.Goals as goal
use Rattle.jobs.proofs.inputs.read_inputs.Goals.{After-signature}

-- the certificate's signature is that of the names
own : (c : After-signature) → arities_of c.signature.result.now ≡ signature_said (said_of c.in_ok-text.text).names
own c = c.signature.ensures ∙ signature_is c.in_ok-text.text.names

pub returns-in_err-certificate : goal.returns-in_err-certificate
returns-in_err-certificate c =
    let told : viewed inputs_of c.from_residual-in_err-certificate.result ≡ Err (Certificate c.in_err-certificate.field-0.0) = search rules in
    told
    ∙ no_certificate c.args.rules.now c.args.certificate.now c.args.start.now (said_of c.in_ok-text.text) c.in_ok-text.ensures.value _ (own (goal.at.returns-in_err-certificate c).After-signature)
    c.in_err-certificate.field-0.0 c.in_err-certificate.ensures.value

pub returns-in_err-term : goal.returns-in_err-term
returns-in_err-term c =
    let told : viewed inputs_of c.from_residual-in_err-term.result ≡ Err (Text c.in_err-term.field-0.0) = search rules in
    told
    ∙ no_term c.args.rules.now c.args.certificate.now c.args.start.now (said_of c.in_ok-text.text) c.in_ok-text.ensures.value _ (own (goal.at.returns-in_err-term c).After-signature)
    (parts_of c.in_ok-certificate.certificate) (algebras_of c.in_ok-certificate.certificate) c.in_ok-certificate.ensures.value c.in_ok-certificate.ensures.means c.in_err-term.field-0.0 c.in_err-term.ensures.value

pub returns : goal.returns
returns c =
    ap (λ sig. Ok record { names = (said_of c.in_ok-text.text).names; system = record { arities = sig; rules = (said_of c.in_ok-text.text).rules }; parts = parts_of c.in_ok-certificate.certificate; algebras = algebras_of c.in_ok-certificate.certificate; codes = items c.in_ok-term.term })
    (c.in_ok-text.text.agree ∙ sym c.signature.ensures)
    ∙ all_read c.args.rules.now c.args.certificate.now c.args.start.now (said_of c.in_ok-text.text) c.in_ok-text.ensures.value _ (own (goal.at.returns c).After-signature)
    (parts_of c.in_ok-certificate.certificate) (algebras_of c.in_ok-certificate.certificate) c.in_ok-certificate.ensures.value c.in_ok-certificate.ensures.means (items c.in_ok-term.term) c.in_ok-term.ensures.value
