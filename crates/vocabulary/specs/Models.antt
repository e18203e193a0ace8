-- What the names of the code stand for.
use Rattle.bounded.specs.Items.{items}
use Rattle.vocabulary.specs.declared.vocabulary.Vocabulary as kept
use Rattle.vocabulary.specs.Vocabularies.{Vocabulary, vocabulary}

abbrev pub vocabulary_of : kept.Vocabulary → Vocabulary
vocabulary_of v = vocabulary (items v.symbols) (items v.variables)
