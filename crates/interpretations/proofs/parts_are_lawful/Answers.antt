use Rattle.interpretations.proofs.Lawfuls.{part_lawful}
use Rattle.interpretations.proofs.Ceilings.{linear_ceiled}
use Rattle.interpretations.proofs.parts_are_lawful.Goals as goal

pub returns : goal.returns
returns c = record { lawful = part_lawful; ceiled = linear_ceiled }
