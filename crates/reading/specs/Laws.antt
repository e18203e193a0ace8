-- What is read, in the words of terms.
use Rattle.std.specs.Prelude.{◌≡◌, ℕ, ◌<◌, ◌≤◌, true, T, List, [], length, is_some}
use Rattle.tokens.specs.Tokens.{Word}
use Rattle.terms.specs.Terms.{Term, codes}
use Rattle.terms.specs.Shapes.{covers}
use Rattle.vocabulary.specs.Vocabularies.{Vocabulary, arity_of, Consistent}
use Rattle.reading.specs.Spelling.{over, words}
use Rattle.reading.specs.Sides.{Role, Role.left, Role.right, Role.start, limit, State, fresh, is_whole, Reads}
use Rattle.reading.specs.Flags.{flagged}

-- on the right, every variable is one of the left
abbrev pub Fine : Role → List ℕ → Type 0
Fine left cs = Unit {0}
Fine (right ls) cs = covers ls cs ≡ true
Fine start cs = Unit {0}

-- words spell a term over the names, and its codes may stand there
pub record Spells (p : Role) (v : Vocabulary) (ws : List Word) (cs : List ℕ) : Type 0 where
  pub term : Term
  pub named : T (over v term)
  pub spelled : ws ≡ words v term
  pub coded : codes term ≡ cs
  pub short : length cs ≤ limit p
  pub fine : Fine p cs

-- words, with others behind them, are read one by one, and then a whole term with these codes stands there
pub record Read (p : Role) (v : Vocabulary) (ws after : List Word) (cs : List ℕ) (v1 : Vocabulary) : Type 0 where
  pub state : State
  pub reads : Reads p v fresh (flagged ws after) v1 state
  pub whole : is_whole state ≡ true
  pub coded : state.codes ≡ cs

-- every symbol's arity is fixed
abbrev pub Settled : Vocabulary → Type 0
Settled v = (f : ℕ) → f < length v.symbols → is_some (arity_of v f) ≡ true

-- over names whose arities are all fixed, words are read as a start term exactly if they spell one, and no name is added
abbrev pub StartExactly : Type 0
StartExactly = (v : Vocabulary) → Consistent v → Settled v → length v.symbols ≤ 32 → (ws : List Word) (cs : List ℕ)
    → ((w : Vocabulary) → Read start v ws [] cs w → (w ≡ v) × Spells start v ws cs) × (Spells start v ws cs → Read start v ws [] cs v)
