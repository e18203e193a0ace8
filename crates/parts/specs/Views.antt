-- The parts that the types of the code are.
use Rattle.terms.specs.Models.{arities_of}
use Rattle.interpretations.specs.Parts.{Part}
use Rattle.parts.specs.declared.linear.LinearPart.{LinearPart}
use Rattle.parts.specs.declared.matrix.MatrixPart.{MatrixPart}
use Rattle.parts.specs.Kinds.{linear_part, matrix_part}

abbrev pub linear_of : LinearPart → Part
linear_of p = linear_part (arities_of p.signature) p.symbols

abbrev pub matrix_of : MatrixPart → Part
matrix_of p = matrix_part (arities_of p.signature) p.dimension p.symbols
