-- What a speller has left: the words that are still to come.
use Rattle.std.specs.Prelude.{ℕ, List, ◌∷◌, reverse}
use Rattle.bounded.specs.Items.{items}
use Rattle.tokens.specs.Tokens.{Word, Word.lpar}
use Rattle.vocabulary.specs.Naming.{Naming, naming_of}
use Rattle.printing.specs.declared.speller.Wants.{Wants}
use Rattle.printing.specs.declared.speller.Wants.TheVariants.{Code, Bracket, Settle}
use Rattle.printing.specs.declared.speller.Speller.{Speller}
use Rattle.printing.specs.Showing.{followed, shown}

-- by what comes next: a code, the bracket of a symbol, or what follows a whole term
abbrev pub left_by : Naming → List ℕ → List ℕ → Wants → List Word
left_by n ps cs Code = shown n ps cs
left_by n ps cs Bracket = lpar ∷ shown n ps cs
left_by n ps cs Settle = followed ps (λ qs. shown n qs cs)

abbrev pub words_left : Speller → List Word
words_left s = left_by (naming_of s.names.now) (reverse (items s.pending)) s.codes.now s.wants
