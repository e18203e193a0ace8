use Rattle.std.proofs.Common.{Err, ap, ◌∙◌}
use Rattle.terms.specs.Models.{arities_of}
use Rattle.certificates.proofs.Reading.{nothing_left, something_left}
use Rattle.certificates.proofs.reader.Reader.end.Goals as goal

pub returns-then-self : goal.returns-then-self
returns-then-self c = ap Err c.at.ensures ∙ something_left (arities_of c.args.self.now.signature) c.args.self.now.at c.args.self.now.bytes.now c.if-self.true

pub returns : goal.returns
returns c = nothing_left (arities_of c.args.self.now.signature) c.args.self.now.at c.args.self.now.bytes.now c.if-self.false
