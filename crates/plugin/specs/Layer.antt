-- A meaning without its ceilings.
use Rattle.std.specs.Prelude.{None}
use Rattle.algebras.specs.Meanings.{Meaning}

abbrev pub uncapped_means : Meaning → Meaning
uncapped_means A = record { fits = A.fits; height = A.height; given = A.given; readable = A.readable; weak = A.weak; strict = A.strict; ceiling = λ n. None }
