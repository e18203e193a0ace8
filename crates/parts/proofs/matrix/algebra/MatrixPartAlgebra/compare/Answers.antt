use Rattle.algebras.proofs.Telling.{compared_law}
use Rattle.parts.specs.Lawfuls.{matrix_lawful}
use Rattle.parts.proofs.matrix.algebra.MatrixPartAlgebra.compare.Goals as goal

pub returns-clause-exactly : goal.returns-clause-exactly
returns-clause-exactly c = compared_law _ (matrix_lawful c.args.self.now) c.args.signature.now _ _ _ c.compare.ensures.value
