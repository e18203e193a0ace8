-- Without its ceilings an algebra is still lawful.
use Rattle.algebras.specs.Meanings.{Meaning, Lawful}
use Rattle.plugin.specs.Layer.{uncapped_means}

pub uncapped_lawful : (A : Meaning) → Lawful A → Lawful (uncapped_means A)
uncapped_lawful A l = record { reached = l.reached; strict_weak = l.strict_weak; keeps = l.keeps; lowers = l.lowers; ceiled = λ sig f t o. tt }
