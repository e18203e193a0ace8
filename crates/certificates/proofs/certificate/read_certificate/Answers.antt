use Rattle.std.proofs.Common.{All, ap, ◌∙◌, arith}
use Rattle.terms.specs.Models.{arities_of}
use Rattle.encodings.specs.Numbers.{IsByte}
use Rattle.encodings.specs.Reading.{certificate_reply}
use Rattle.certificates.specs.Readers.{finished}
use Rattle.certificates.proofs.Reading.{all_bytes, kept_exactly}
use Rattle.certificates.proofs.MeaningLemmas.{reply_means}
use Rattle.certificates.proofs.certificate.read_certificate.Goals as goal

pub returns-clause-exactly : goal.returns-clause-exactly
returns-clause-exactly c =
    let small : All IsByte c.args.bytes.now = all_bytes c.args.bytes.now (λ i. omega (arith, c.type_inv.bytes i)) in
    kept_exactly (arities_of c.args.signature.now) c.args.bytes.now small _ (c.read_all.ensures ∙ ap finished c.new.ensures)

pub returns-clause-means : goal.returns-clause-means
returns-clause-means c = reply_means (arities_of c.args.signature.now) _ (certificate_reply (arities_of c.args.signature.now) c.args.bytes.now) (c.read_all.ensures ∙ ap finished c.new.ensures)
