-- Every part is lawful.
use Rattle.algebras.specs.Meanings.{Lawful}
use Rattle.algebras.specs.Lawfuls.{empty_lawful}
use Rattle.parts.specs.Lawfuls.{linear_lawful, matrix_lawful}
use Rattle.piles.specs.declared.part.Part.{Part}
use Rattle.piles.specs.declared.part.Part.TheVariants.{Linear, Matrix, Missing}
use Rattle.piles.specs.Parts.{part_algebra}

pub lawful : (q : Part) → Lawful (part_algebra q)
lawful (Linear p) = linear_lawful p
lawful (Matrix p) = matrix_lawful p
lawful (Missing e) = empty_lawful
