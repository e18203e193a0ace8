-- The worked certificate, and broken ones.
use Rattle.std.specs.Prelude.{◌≡◌, ℕ, List, [], ◌∷◌, Ok, Err, refl}
use Rattle.parts.specs.declared.matrix.Matrix.{Matrix}
use Rattle.encodings.specs.declared.flaw.RecordFlaw.TheVariants.{CutShort, WrongKind, WrongLength, OutOfRange, WrongSymbols, LeftOver}
use Rattle.encodings.specs.Numbers.{Numbers, Numbers.linear, Numbers.matrix}
use Rattle.encodings.specs.Encoding.{encoded}
use Rattle.encodings.specs.Frames.{frames}
use Rattle.encodings.specs.Bodies.{each, times}
use Rattle.encodings.specs.Reading.{read, certificate_reply}

abbrev arities : List ℕ
arities = 2 ∷ (0 ∷ (1 ∷ []))

abbrev unit : Matrix
unit = record { rows = (1 ∷ (0 ∷ [])) ∷ ((0 ∷ (1 ∷ [])) ∷ []) }

abbrev worked : List ℕ
worked = (2 ∷ (0 ∷ (1 ∷ (0 ∷ (2 ∷ (3 ∷ (6 ∷ (0 ∷ (16 ∷ (0 ∷ (1 ∷ (1 ∷ (1 ∷ (0 ∷ (0 ∷ (1 ∷ (19 ∷ (0 ∷ (17 ∷ (0 ∷ (2 ∷ (0 ∷ (0 ∷ (1 ∷ (1 ∷ (0 ∷ (1 ∷ (1 ∷ (0 ∷ (0 ∷ (1 ∷ (0 ∷ (0 ∷ (0 ∷ (1 ∷ (1 ∷ (0 ∷ (0 ∷ (1 ∷ [])))))))))))))))))))))))))))))))))))))))

abbrev parts : List Numbers
parts =
    linear (record { constant = 1; factors = 1 ∷ (1 ∷ []) } ∷ (record { constant = 0; factors = [] } ∷ (record { constant = 0; factors = 1 ∷ [] } ∷ [])))
    ∷ (matrix 2 (record { constant = 0 ∷ (0 ∷ []); matrices = record { rows = (1 ∷ (1 ∷ [])) ∷ ((0 ∷ (1 ∷ [])) ∷ []) } ∷ (unit ∷ []) } ∷ (record { constant = 0 ∷ (0 ∷ []); matrices = [] } ∷ (record { constant = 0 ∷ (1 ∷ []); matrices = unit ∷ [] } ∷ []))) ∷ [])

written : encoded arities parts ≡ worked
written = refl

read_back : certificate_reply arities worked ≡ Ok parts
unfolding frames read each times
read_back = refl

cut : certificate_reply arities (2 ∷ (0 ∷ (1 ∷ (0 ∷ (2 ∷ (3 ∷ (6 ∷ (0 ∷ (16 ∷ (0 ∷ (1 ∷ (1 ∷ (1 ∷ (0 ∷ (0 ∷ (1 ∷ (19 ∷ (0 ∷ (17 ∷ (0 ∷ (2 ∷ (0 ∷ (0 ∷ (1 ∷ (1 ∷ (0 ∷ (1 ∷ (1 ∷ (0 ∷ (0 ∷ (1 ∷ (0 ∷ (0 ∷ (0 ∷ (1 ∷ (1 ∷ (0 ∷ (0 ∷ [])))))))))))))))))))))))))))))))))))))) ≡ Err record { flaw = CutShort; offset = 16 }
unfolding frames read each times
cut = refl

nothing : certificate_reply arities [] ≡ Err record { flaw = CutShort; offset = 0 }
unfolding frames read each times
nothing = refl

ends_early : certificate_reply arities (2 ∷ (0 ∷ (1 ∷ (0 ∷ (2 ∷ (3 ∷ (6 ∷ (0 ∷ (16 ∷ (0 ∷ (1 ∷ (1 ∷ (1 ∷ (0 ∷ (0 ∷ (1 ∷ [])))))))))))))))) ≡ Err record { flaw = CutShort; offset = 16 }
unfolding frames read each times
ends_early = refl

more : certificate_reply arities (2 ∷ (0 ∷ (1 ∷ (0 ∷ (2 ∷ (3 ∷ (6 ∷ (0 ∷ (16 ∷ (0 ∷ (1 ∷ (1 ∷ (1 ∷ (0 ∷ (0 ∷ (1 ∷ (19 ∷ (0 ∷ (17 ∷ (0 ∷ (2 ∷ (0 ∷ (0 ∷ (1 ∷ (1 ∷ (0 ∷ (1 ∷ (1 ∷ (0 ∷ (0 ∷ (1 ∷ (0 ∷ (0 ∷ (0 ∷ (1 ∷ (1 ∷ (0 ∷ (0 ∷ (1 ∷ (7 ∷ [])))))))))))))))))))))))))))))))))))))))) ≡ Err record { flaw = LeftOver; offset = 39 }
unfolding frames read each times
more = refl

high_byte : certificate_reply arities (2 ∷ (0 ∷ (1 ∷ (1 ∷ (2 ∷ (3 ∷ (6 ∷ (0 ∷ (16 ∷ (0 ∷ (1 ∷ (1 ∷ (1 ∷ (0 ∷ (0 ∷ (1 ∷ (19 ∷ (0 ∷ (17 ∷ (0 ∷ (2 ∷ (0 ∷ (0 ∷ (1 ∷ (1 ∷ (0 ∷ (1 ∷ (1 ∷ (0 ∷ (0 ∷ (1 ∷ (0 ∷ (0 ∷ (0 ∷ (1 ∷ (1 ∷ (0 ∷ (0 ∷ (1 ∷ []))))))))))))))))))))))))))))))))))))))) ≡ Err record { flaw = WrongKind; offset = 0 }
unfolding frames read each times
high_byte = refl

factor : certificate_reply arities (2 ∷ (0 ∷ (1 ∷ (0 ∷ (2 ∷ (3 ∷ (6 ∷ (0 ∷ (16 ∷ (0 ∷ (1 ∷ (1 ∷ (0 ∷ (0 ∷ (0 ∷ (1 ∷ (19 ∷ (0 ∷ (17 ∷ (0 ∷ (2 ∷ (0 ∷ (0 ∷ (1 ∷ (1 ∷ (0 ∷ (1 ∷ (1 ∷ (0 ∷ (0 ∷ (1 ∷ (0 ∷ (0 ∷ (0 ∷ (1 ∷ (1 ∷ (0 ∷ (0 ∷ (1 ∷ []))))))))))))))))))))))))))))))))))))))) ≡ Err record { flaw = OutOfRange; offset = 12 }
unfolding frames read each times
factor = refl

top : certificate_reply arities (2 ∷ (0 ∷ (1 ∷ (0 ∷ (2 ∷ (3 ∷ (6 ∷ (0 ∷ (16 ∷ (0 ∷ (1 ∷ (1 ∷ (1 ∷ (0 ∷ (0 ∷ (1 ∷ (19 ∷ (0 ∷ (17 ∷ (0 ∷ (2 ∷ (0 ∷ (0 ∷ (1 ∷ (1 ∷ (0 ∷ (1 ∷ (0 ∷ (0 ∷ (0 ∷ (1 ∷ (0 ∷ (0 ∷ (0 ∷ (1 ∷ (1 ∷ (0 ∷ (0 ∷ (1 ∷ []))))))))))))))))))))))))))))))))))))))) ≡ Err record { flaw = OutOfRange; offset = 27 }
unfolding frames read each times
top = refl

dimension : certificate_reply arities (2 ∷ (0 ∷ (1 ∷ (0 ∷ (2 ∷ (3 ∷ (6 ∷ (0 ∷ (16 ∷ (0 ∷ (1 ∷ (1 ∷ (1 ∷ (0 ∷ (0 ∷ (1 ∷ (19 ∷ (0 ∷ (17 ∷ (0 ∷ (5 ∷ (0 ∷ (0 ∷ (1 ∷ (1 ∷ (0 ∷ (1 ∷ (1 ∷ (0 ∷ (0 ∷ (1 ∷ (0 ∷ (0 ∷ (0 ∷ (1 ∷ (1 ∷ (0 ∷ (0 ∷ (1 ∷ []))))))))))))))))))))))))))))))))))))))) ≡ Err record { flaw = OutOfRange; offset = 20 }
unfolding frames read each times
dimension = refl

other_dimension : certificate_reply arities (2 ∷ (0 ∷ (1 ∷ (0 ∷ (2 ∷ (3 ∷ (6 ∷ (0 ∷ (16 ∷ (0 ∷ (1 ∷ (1 ∷ (1 ∷ (0 ∷ (0 ∷ (1 ∷ (19 ∷ (0 ∷ (17 ∷ (0 ∷ (1 ∷ (0 ∷ (0 ∷ (1 ∷ (1 ∷ (0 ∷ (1 ∷ (1 ∷ (0 ∷ (0 ∷ (1 ∷ (0 ∷ (0 ∷ (0 ∷ (1 ∷ (1 ∷ (0 ∷ (0 ∷ (1 ∷ []))))))))))))))))))))))))))))))))))))))) ≡ Err record { flaw = WrongLength; offset = 16 }
unfolding frames read each times
other_dimension = refl

symbols : certificate_reply arities (2 ∷ (0 ∷ (1 ∷ (0 ∷ (2 ∷ (4 ∷ (6 ∷ (0 ∷ (16 ∷ (0 ∷ (1 ∷ (1 ∷ (1 ∷ (0 ∷ (0 ∷ (1 ∷ (19 ∷ (0 ∷ (17 ∷ (0 ∷ (2 ∷ (0 ∷ (0 ∷ (1 ∷ (1 ∷ (0 ∷ (1 ∷ (1 ∷ (0 ∷ (0 ∷ (1 ∷ (0 ∷ (0 ∷ (0 ∷ (1 ∷ (1 ∷ (0 ∷ (0 ∷ (1 ∷ []))))))))))))))))))))))))))))))))))))))) ≡ Err record { flaw = WrongSymbols; offset = 5 }
unfolding frames read each times
symbols = refl
