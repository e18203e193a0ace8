use Rattle.algebras.proofs.Telling.{compared_law}
use Rattle.parts.specs.Lawfuls.{linear_lawful}
use Rattle.parts.proofs.linear.algebra.LinearPartAlgebra.compare.Goals as goal

pub returns-clause-exactly : goal.returns-clause-exactly
returns-clause-exactly c = compared_law _ (linear_lawful c.args.self.now) c.args.signature.now _ _ _ c.compare.ensures.value
