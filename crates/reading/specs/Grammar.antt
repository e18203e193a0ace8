-- How a system is spelled.
use Rattle.std.specs.Prelude.{◌≡◌, ℕ, ◌≤◌, true, List, [], ◌∷◌, ◌++◌, length, codes as text}
use Rattle.tokens.specs.Tokens.{Word, Word.lpar, Word.rpar, Word.arrow, Word.named}
use Rattle.terms.specs.Limits.{most_symbols, variables, most_rules}
use Rattle.terms.specs.Shapes.{starts_with_symbol}
use Rattle.terms.specs.Models.{Sides}
use Rattle.vocabulary.specs.Vocabularies.{Vocabulary, Consistent}
use Rattle.reading.specs.Sides.{Role.left, Role.right}
use Rattle.reading.specs.Spelling.{numbered}
use Rattle.reading.specs.Laws.{Spells}

-- rules, one behind the other: each is a term that is no variable, an arrow, and a term over the first one's variables
pub data RulesSpelled (v : Vocabulary) : List Word → List Sides → Type 0 where
  no_rules : RulesSpelled v [] []
  one_more : {ls rs ws : List Word} {l r : List ℕ} {ss : List Sides} → Spells left v ls l → starts_with_symbol l ≡ true → Spells (right l) v rs r → RulesSpelled v ws ss
      → RulesSpelled v (ls ++ (arrow ∷ (rs ++ ws))) (record { left = l; right = r } ∷ ss)

abbrev pub names : List (List ℕ) → List Word
names [] = []
names (n ∷ ns) = named n ∷ names ns

-- the two blocks of a text: the names of the variables, and the rules
abbrev pub blocks : List (List ℕ) → List Word → List Word
blocks vars rules = lpar ∷ named (text "VAR") ∷ (names vars ++ (rpar ∷ lpar ∷ named (text "RULES") ∷ (rules ++ rpar ∷ [])))

-- words spell a system over names: symbols are numbered by first appearance, no two names are the same, and all is
-- within the limits
pub record TextSpelled (ws : List Word) (v : Vocabulary) (ss : List Sides) : Type 0 where
  pub rule_words : List Word
  pub spelled : ws ≡ blocks v.variables rule_words
  pub rules : RulesSpelled v rule_words ss
  pub numbers : v.symbols ≡ numbered v.variables [] rule_words
  pub names : Consistent v
  pub few_variables : length v.variables ≤ variables
  pub few_symbols : length v.symbols ≤ most_symbols
  pub few_rules : length ss ≤ most_rules
