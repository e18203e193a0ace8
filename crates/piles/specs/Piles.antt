-- The pile of a certificate: the sum of two sums of its four parts.
use Rattle.algebras.specs.declared.sum.Sum.{Sum}
use Rattle.piles.specs.declared.part.Part.{Part}

abbrev pub piled : Part → Part → Part → Part → Sum (Sum Part Part) (Sum Part Part)
piled a b c d = record { first = record { first = a; second = b }; second = record { first = c; second = d } }
