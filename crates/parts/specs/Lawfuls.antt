-- The parts of the code are lawful algebras.
use Rattle.std.specs.Prelude.{refl}
use Rattle.std.proofs.Common.{arith}
use Rattle.algebras.specs.Meanings.{Lawful}
use Rattle.forms.specs.Faithful.{Limited}
use Rattle.interpretations.specs.Orders.{part_means, linear_ceiling, no_ceiling}
use Rattle.interpretations.proofs.Lawfuls.{part_lawful}
use Rattle.interpretations.proofs.Ceilings.{linear_ceiled}
use Rattle.parts.specs.declared.linear.LinearPart.{LinearPart}
use Rattle.parts.specs.declared.matrix.MatrixPart.{MatrixPart}
use Rattle.parts.specs.Views.{linear_of, matrix_of}
use Rattle.parts.specs.MakingLemmas.{monotone_from, limited_from}

pub linear_lawful : (p : LinearPart) → Lawful (part_means (linear_of p) (linear_ceiling (linear_of p)))
linear_lawful p = part_lawful (linear_of p) (monotone_from (linear_of p) (omega arith) p.tops) (linear_ceiling (linear_of p)) (linear_ceiled (linear_of p) refl)

pub matrix_lawful : (p : MatrixPart) → Lawful (part_means (matrix_of p) no_ceiling)
matrix_lawful p = part_lawful (matrix_of p) (monotone_from (matrix_of p) p.some p.tops) no_ceiling (λ t o. tt)

-- a linear part's one dimension is within the sizes of forms
pub linear_limited : (p : LinearPart) → Limited (linear_of p)
linear_limited p = limited_from p.signature (linear_of p) refl (omega arith) (omega arith)
