-- A text in the course of being read: what is left comes to what the whole comes to.
use Rattle.std.proofs.Common.{◌≡◌, ℕ, List, [], ◌∷◌, length, Some, None, Option}
use Rattle.tokens.specs.Tokens.{Word, Tok}
use Rattle.reading.specs.Documents.{Document}
use Rattle.reading.specs.Outcomes.{run, outcome}

-- the token in hand, if it is one, before those to come
abbrev pub in_hand : ℕ → Option Word → List Tok → List Tok
in_hand at None rest = rest
in_hand at (Some w) rest = record { at = at; word = w } ∷ rest

-- at the end nothing is to come
abbrev pub Ended : ℕ → ℕ → Option Word → List Tok → Type 0
Ended end at None rest = (rest ≡ []) × (at ≡ end)
Ended end at (Some w) rest = Unit {0}

pub record Reading (first : Document) (bytes : List ℕ) (d : Document) (at : ℕ) (word : Option Word) (rest : List Tok) (end : ℕ) : Type 0 where
  pub length_is : end ≡ length bytes
  pub same : outcome first bytes ≡ run (length bytes) d (in_hand at word rest)
  pub ended : Ended (length bytes) at word rest

-- how much is left
abbrev pub left : ℕ → Option Word → List Tok → ℕ
left at word rest = length (in_hand at word rest)
