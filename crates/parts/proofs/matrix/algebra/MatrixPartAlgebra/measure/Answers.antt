use Rattle.algebras.proofs.Telling.{measured_law}
use Rattle.parts.specs.Lawfuls.{matrix_lawful}
use Rattle.parts.proofs.matrix.algebra.MatrixPartAlgebra.measure.Goals as goal

pub returns-clause-exactly : goal.returns-clause-exactly
returns-clause-exactly c = measured_law _ (matrix_lawful c.args.self.now) c.args.signature.now _ _ c.measure.ensures.value
