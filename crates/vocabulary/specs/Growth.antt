-- A vocabulary grows: names keep their numbers, and arities that are fixed stay.
use Rattle.std.specs.Prelude.{◌≡◌, ℕ, List, ◌++◌, Some}
use Rattle.vocabulary.specs.Vocabularies.{Vocabulary, arity_of}

pub record Grows (v w : Vocabulary) : Type 0 where
  pub variables : w.variables ≡ v.variables
  pub added : List (List ℕ)
  pub symbols : w.symbols ≡ v.symbols ++ added
  pub arities : (f a : ℕ) → arity_of v f ≡ Some a → arity_of w f ≡ Some a
