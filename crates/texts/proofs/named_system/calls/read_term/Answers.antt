use Rattle.std.proofs.Common.{refl, ap, ◌∙◌}
use Rattle.reading.specs.Documents.{start_term}
use Rattle.reading.specs.Outcomes.{outcome}
use Rattle.texts.specs.Documents.{document_of}
use Rattle.texts.proofs.Answering.{term_read}
use Rattle.texts.proofs.named_system.calls.read_term.Goals as goal

pub returns-clause-term : goal.returns-clause-term
returns-clause-term c =
    let bytes = c.args.text.now in
    let d = c.read.new.document in
    let said = c.in_ok-read.ensures.value ∙ ap (λ d. outcome d bytes) (c.start_term-document.ensures ∙ ap start_term c.vocabulary.ensures) in
    (term_read c.args.names.now bytes (document_of d) d.phase d.parts.side refl said).over
