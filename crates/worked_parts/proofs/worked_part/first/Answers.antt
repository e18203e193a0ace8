use Rattle.worked_parts.proofs.Makings.{linear_made}
use Rattle.worked_parts.specs.WorkedParts.{first_numbers}
use Rattle.worked_parts.proofs.worked_part.first.Goals as goal

pub returns : goal.returns
returns c = linear_made first_numbers c.signature.ensures c.unwrap.ensures c.new.ensures.made
