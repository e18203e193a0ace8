-- What a certificate's parts mean as algebras.
use Rattle.std.specs.Prelude.{ℕ, List, map}
use Rattle.bounded.specs.Items.{items}
use Rattle.algebras.specs.Meanings.{Meaning}
use Rattle.interpretations.specs.Orders.{part_means, linear_ceiling, no_ceiling}
use Rattle.parts.specs.Kinds.{linear_part, matrix_part}
use Rattle.piles.specs.Parts.{part_algebra}
use Rattle.encodings.specs.Numbers.{Numbers, Numbers.linear, Numbers.matrix}
use Rattle.certificates.specs.declared.certificate.Certificate.{Certificate}

-- the algebra that numbers give for the symbols of a signature
abbrev pub numbers_algebra : List ℕ → Numbers → Meaning
numbers_algebra sig (linear symbols) = part_means (linear_part sig symbols) (linear_ceiling (linear_part sig symbols))
numbers_algebra sig (matrix d symbols) = part_means (matrix_part sig d symbols) no_ceiling

-- one for each part
abbrev pub all_algebras : List ℕ → List Numbers → List Meaning
all_algebras sig parts = map (numbers_algebra sig) parts

-- the algebras of a certificate's parts
abbrev pub algebras_of : Certificate → List Meaning
algebras_of c = map part_algebra (items c.parts)
