use Rattle.algebras.proofs.Telling.{measured_law}
use Rattle.parts.specs.Lawfuls.{linear_lawful}
use Rattle.parts.proofs.linear.algebra.LinearPartAlgebra.measure.Goals as goal

pub returns-clause-exactly : goal.returns-clause-exactly
returns-clause-exactly c = measured_law _ (linear_lawful c.args.self.now) c.args.signature.now _ _ c.measure.ensures.value
