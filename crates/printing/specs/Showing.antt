-- The words of codes, by one walk with a stack: how many arguments each symbol still awaits, innermost first.
use Rattle.std.specs.Prelude.{ℕ, zero, suc, Bool, cond, List, [], ◌∷◌, is_some, Some, None, Option, ◌==◌}
use Rattle.std.specs.List.{list_all}
use Rattle.tokens.specs.Tokens.{Word, Word.lpar, Word.rpar, Word.comma, Word.named}
use Rattle.terms.specs.Codes.{arity}
use Rattle.vocabulary.specs.Vocabularies.{Vocabulary}
use Rattle.vocabulary.specs.Naming.{Naming}
use Rattle.vocabulary.specs.Replies.{name_at}

-- behind a whole argument: a bracket for each symbol that awaits no other, then a comma where one does
abbrev pub followed : List ℕ → (List ℕ → List Word) → List Word
followed [] rest = rest []
followed (zero ∷ ps) rest = rpar ∷ followed ps rest
followed (suc zero ∷ ps) rest = rpar ∷ followed ps rest
followed (suc (suc k) ∷ ps) rest = comma ∷ rest (suc k ∷ ps)

-- a name before other words; what has no name ends them
abbrev pub led : Option (List ℕ) → List Word → List Word
led None ws = []
led (Some n) ws = named n ∷ ws

-- the words of codes
abbrev pub shown : Naming → List ℕ → List ℕ → List Word
shown n ps [] = []
shown n ps (c ∷ cs) =
    led (name_at n.vocabulary c)
    (cond (arity n.signature c == 0) (followed ps (λ qs. shown n qs cs)) (lpar ∷ shown n (arity n.signature c ∷ ps) cs))

-- whether each code has a name
abbrev pub all_named : Vocabulary → List ℕ → Bool
all_named v cs = list_all (λ c. is_some (name_at v c)) cs
