-- The names of a system: a vocabulary whose arities are all fixed, and the signature that they make.
use Rattle.std.specs.Prelude.{ℕ, List, Option}
use Rattle.std.specs.Option.{option_map}
use Rattle.terms.specs.Models.{arities_of}
use Rattle.vocabulary.specs.declared.names.Names.{Names}
use Rattle.vocabulary.specs.Vocabularies.{Vocabulary, fixed_arities}
use Rattle.vocabulary.specs.Models.{vocabulary_of}

pub record Naming : Type 0 where
  pub vocabulary : Vocabulary
  pub signature : List ℕ

abbrev pub naming_of : Names → Naming
naming_of n = record { vocabulary = vocabulary_of n.vocabulary; signature = arities_of n.signature }

-- there are names as soon as every arity is fixed
abbrev pub naming_reply : Vocabulary → Option Naming
naming_reply v = option_map (λ (sig : List ℕ). record { vocabulary = v; signature = sig }) (fixed_arities v.arities)
