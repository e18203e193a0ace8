-- The word that the end of a trip is printed as.
use Rattle.std.specs.Prelude.{ℕ, List, codes}
use Rattle.trips.specs.declared.End.{End}
use Rattle.trips.specs.declared.End.TheVariants.{Normal, More, TooLong}

-- a next term that is too long shows as the number of that refusal
abbrev pub end_word : End → List ℕ
end_word Normal = codes "normal"
end_word More = codes "more"
end_word TooLong = codes "42"
