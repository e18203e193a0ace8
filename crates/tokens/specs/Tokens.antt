-- The tokens of a text, each with the offset of its first byte.
use Rattle.std.specs.Prelude.{ℕ, zero, suc, Bool, cond, ◌&&◌, List, [], ◌∷◌, length, take, drop, ◌==◌, nat_le, slice_index}
use Rattle.tokens.specs.Bytes.{blank, letter, run}

pub data Word : Type 0 where
  lpar : Word
  rpar : Word
  comma : Word
  arrow : Word
  named : List ℕ → Word
  long : Word
  illegal : Word

pub record Tok : Type 0 where
  pub at : ℕ
  pub word : Word

-- a name has at most 16 bytes
abbrev pub name_or_long : List ℕ → Word
name_or_long bs = cond (nat_le (length bs) 16) (named bs) long

-- a hyphen with a greater-than behind it
abbrev pub is_arrow : ℕ → List ℕ → Bool
is_arrow b bs = b == 45 && slice_index bs 0 == 62

-- a byte that is neither of a name nor of an arrow
abbrev pub mark : ℕ → Word
mark b = cond (b == 40) lpar (cond (b == 41) rpar (cond (b == 44) comma illegal))

-- the token that begins at a byte b before bs, and how many of bs it takes: a name is the longest run of its bytes
abbrev pub token : ℕ → List ℕ → Word
token b bs = cond (letter b) (name_or_long (b ∷ take (run letter bs) bs)) (cond (is_arrow b bs) arrow (mark b))

abbrev pub extra : ℕ → List ℕ → ℕ
extra b bs = cond (letter b) (run letter bs) (cond (is_arrow b bs) 1 0)

-- the tokens of the bytes from `at` on, of which the first k belong to a token before them
abbrev pub lex : ℕ → ℕ → List ℕ → List Tok
lex at k [] = []
lex at (suc k) (b ∷ bs) = lex (suc at) k bs
lex at zero (b ∷ bs) = cond (blank b) (lex (suc at) 0 bs) (record { at = at; word = token b bs } ∷ lex (suc at) (extra b bs) bs)

abbrev pub tokens : List ℕ → List Tok
tokens text = lex 0 0 text

-- the tokens of a text from a place on
abbrev pub tokens_from : List ℕ → ℕ → List Tok
tokens_from text at = lex at 0 (drop at text)
