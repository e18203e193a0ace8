use Rattle.worked_parts.proofs.Makings.{matrix_made}
use Rattle.worked_parts.specs.WorkedParts.{second_numbers}
use Rattle.worked_parts.proofs.worked_part.second.Goals as goal

pub returns : goal.returns
returns c = matrix_made second_numbers c.signature.ensures c.unwrap.ensures c.new.ensures.made
