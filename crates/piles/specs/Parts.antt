-- What the parts of a certificate mean as algebras.
use Rattle.algebras.specs.Meanings.{Meaning}
use Rattle.algebras.specs.Layers.{empty_means}
use Rattle.interpretations.specs.Orders.{part_means, linear_ceiling, no_ceiling}
use Rattle.parts.specs.Views.{linear_of, matrix_of}
use Rattle.piles.specs.declared.part.Part.{Part}
use Rattle.piles.specs.declared.part.Part.TheVariants.{Linear, Matrix, Missing}

abbrev pub part_algebra : Part → Meaning
part_algebra (Linear p) = part_means (linear_of p) (linear_ceiling (linear_of p))
part_algebra (Matrix p) = part_means (matrix_of p) no_ceiling
part_algebra (Missing e) = empty_means
