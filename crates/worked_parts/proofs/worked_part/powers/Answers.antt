use Rattle.worked_parts.proofs.Makings.{linear_made}
use Rattle.worked_parts.specs.WorkedParts.{power_numbers}
use Rattle.worked_parts.proofs.worked_part.powers.Goals as goal

pub returns : goal.returns
returns c = linear_made power_numbers c.signature.ensures c.unwrap.ensures c.new.ensures.made
