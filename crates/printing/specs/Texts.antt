-- The text of a term: the bytes of its words, one behind the other, without blanks.
use Rattle.std.specs.Prelude.{ℕ, List, [], ◌∷◌}
use Rattle.std.specs.List.{flat_map}
use Rattle.tokens.specs.Tokens.{Word, Word.lpar, Word.rpar, Word.comma, Word.arrow, Word.named, Word.long, Word.illegal}
use Rattle.terms.specs.Terms.{Term}
use Rattle.vocabulary.specs.Vocabularies.{Vocabulary}
use Rattle.reading.specs.Spelling.{words}

-- a word's bytes; the last two stand for bytes that no term is written with
abbrev pub word_bytes : Word → List ℕ
word_bytes lpar = 40 ∷ []
word_bytes rpar = 41 ∷ []
word_bytes comma = 44 ∷ []
word_bytes arrow = 45 ∷ 62 ∷ []
word_bytes (named n) = n
word_bytes long = []
word_bytes illegal = []

abbrev pub text : List Word → List ℕ
text ws = flat_map word_bytes ws

-- how a term is printed
abbrev pub spelled : Vocabulary → Term → List ℕ
spelled v t = text (words v t)
