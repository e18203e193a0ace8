-- What a text comes to: what it says, or the one flaw that it is refused for, with its place.
use Rattle.std.specs.Prelude.{ℕ, Bool, true, cond, not, List, [], ◌∷◌, map, length}
use Rattle.tokens.specs.Tokens.{Word, Tok, tokens}
use Rattle.vocabulary.specs.declared.flaw.Flaw.{Flaw}
use Rattle.vocabulary.specs.declared.flaw.Flaw.TheVariants.{Misplaced}
use Rattle.reading.specs.Sides.{is_open}
use Rattle.reading.specs.Documents.{Document, Move, Move.to, Move.flawed, move, may_end}

pub data Outcome : Type 0 where
  accepted : Document → Outcome
  refused : Flaw → ℕ → Outcome

-- whether no bracket stands in front
abbrev pub bare_tokens : List Tok → Bool
bare_tokens [] = true
bare_tokens (t ∷ ts) = not (is_open t.word)

-- a flaw ends the reading, at its token
abbrev pub run_on : ℕ → (Document → Outcome) → Move → Outcome
run_on at rest (to d) = rest d
run_on at rest (flawed f) = refused f at

-- token by token; the end of the text comes too early, or not
abbrev pub run : ℕ → Document → List Tok → Outcome
run end d [] = cond (may_end d.phase) (accepted d) (refused Misplaced end)
run end d (t ∷ ts) = run_on t.at (λ d1. run end d1 ts) (move d t.word (bare_tokens ts))

-- a whole text, read from a beginning
abbrev pub outcome : Document → List ℕ → Outcome
outcome d text = run (length text) d (tokens text)

-- the words of tokens
abbrev pub spell : List Tok → List Word
spell ts = map (λ (t : Tok). t.word) ts
