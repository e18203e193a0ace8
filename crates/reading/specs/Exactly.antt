-- When a text is accepted, and how its refusals are placed.
use Rattle.std.specs.Prelude.{◌≡◌, ℕ, ◌<◌, ◌≤◌, ◌⊎◌, List, [], ◌∷◌, ◌++◌, length}
use Rattle.tokens.specs.Tokens.{Tok, tokens}
use Rattle.terms.specs.Limits.{most_symbols}
use Rattle.terms.specs.Models.{Sides}
use Rattle.vocabulary.specs.declared.flaw.Flaw.{Flaw}
use Rattle.vocabulary.specs.Vocabularies.{Vocabulary, Consistent}
use Rattle.reading.specs.Sides.{Role.start}
use Rattle.reading.specs.Laws.{Spells, Settled}
use Rattle.reading.specs.Grammar.{TextSpelled}
use Rattle.reading.specs.Documents.{Document, document, Phase.closed, Phase.ended, rule_text, start_term}
use Rattle.reading.specs.Outcomes.{Outcome.accepted, Outcome.refused, outcome, spell}

-- a rule text is accepted exactly if its tokens spell a system, and as that system
pub record TextExactly (bytes : List ℕ) : Type 0 where
  pub sound : (d : Document) → outcome rule_text bytes ≡ accepted d → (d.phase ≡ closed) × TextSpelled (spell (tokens bytes)) d.names d.rules
  pub settled : (d : Document) → outcome rule_text bytes ≡ accepted d → Settled d.names
  pub complete : (v : Vocabulary) (ss : List Sides) → TextSpelled (spell (tokens bytes)) v ss → outcome rule_text bytes ≡ accepted (document v ss closed)

-- a start term over names whose arities are fixed is accepted exactly if its tokens spell a term over them
pub record TermTextExactly (v : Vocabulary) (bytes : List ℕ) : Type 0 where
  pub sound : (d : Document) → outcome (start_term v) bytes ≡ accepted d → (cs : List ℕ) × (d ≡ document v [] (ended cs)) × Spells start v (spell (tokens bytes)) cs
  pub complete : (cs : List ℕ) → Spells start v (spell (tokens bytes)) cs → outcome (start_term v) bytes ≡ accepted (document v [] (ended cs))

-- a token begins at an offset
pub record Begins (ts : List Tok) (at : ℕ) : Type 0 where
  pub before : List Tok
  pub here : Tok
  pub after : List Tok
  pub among : ts ≡ before ++ here ∷ after
  pub placed : here.at ≡ at

-- a refusal's place is the offset of a token, or the end of the text; and it is certain: whatever stands in the place of
-- what follows the first byte of a token behind the fault's, the refusal is the same
pub record RefusalStands (d : Document) (bytes : List ℕ) (f : Flaw) (at : ℕ) : Type 0 where
  pub placed : Begins (tokens bytes) at ⊎ (at ≡ length bytes)
  pub certain : (before : List ℕ) (b : ℕ) (after other : List ℕ) → bytes ≡ before ++ b ∷ after → Begins (tokens bytes) (length before) → at < length before
      → outcome d (before ++ b ∷ other) ≡ refused f at

-- what is said of all texts: rule texts, start terms over names whose arities are fixed, and refusals
pub record TextsRead : Type 0 where
  pub texts : (bytes : List ℕ) → TextExactly bytes
  pub terms : (v : Vocabulary) → Consistent v → Settled v → length v.symbols ≤ most_symbols → (bytes : List ℕ) → TermTextExactly v bytes
  pub refusals : (d : Document) (bytes : List ℕ) (f : Flaw) (at : ℕ) → outcome d bytes ≡ refused f at → RefusalStands d bytes f at
