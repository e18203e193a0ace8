-- What a certificate stands for.
use Rattle.std.specs.Prelude.{ℕ, List, map, Option, slice_index_or}
use Rattle.bounded.specs.Items.{items}
use Rattle.algebras.specs.declared.sum.Sum.{Sum}
use Rattle.piles.specs.declared.part.Part.{Part}
use Rattle.piles.specs.declared.part.Part.TheVariants.{Missing}
use Rattle.piles.specs.Piles.{piled}
use Rattle.certificates.specs.declared.certificate.Certificate.{Certificate}
use Rattle.certificates.specs.Parts.{Kept, kept_part}

-- what its parts keep
abbrev pub parts_of : Certificate → List (Option Kept)
parts_of c = map kept_part (items c.parts)

-- a part, or the empty one where there is none
abbrev pub nth_part : List Part → ℕ → Part
nth_part parts k = slice_index_or parts k (Missing record {})

-- the sum of two sums of four parts
abbrev pub certificate_pile : List Part → Sum (Sum Part Part) (Sum Part Part)
certificate_pile parts = piled (nth_part parts 0) (nth_part parts 1) (nth_part parts 2) (nth_part parts 3)
