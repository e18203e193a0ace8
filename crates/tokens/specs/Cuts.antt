-- What it means that a text is cut into tokens: blanks may stand before each, and none could be longer.
use Rattle.std.specs.Prelude.{◌≡◌, ℕ, ◌+◌, ◌<◌, true, false, List, [], ◌∷◌, ◌++◌, length, ◌≢◌, slice_index}
use Rattle.tokens.specs.Bytes.{blank, letter, all_letters}
use Rattle.tokens.specs.Tokens.{Word, Word.lpar, Word.rpar, Word.comma, Word.arrow, Word.named, Word.long, Word.illegal, Tok, tokens}

abbrev pub all_blank : List ℕ → Type 0
all_blank [] = Unit {0}
all_blank (b ∷ bs) = (blank b ≡ true) × all_blank bs

-- no letter stands first
abbrev pub Stops : List ℕ → Type 0
Stops [] = Unit {0}
Stops (b ∷ bs) = letter b ≡ false

-- a byte that begins no token: no blank, no letter, no bracket, no comma, and no hyphen with a greater-than behind it
pub record Stray (b : ℕ) (rest : List ℕ) : Type 0 where
  pub no_blank : blank b ≡ false
  pub no_letter : letter b ≡ false
  pub no_open : b ≡ 40 → ⊥
  pub no_close : b ≡ 41 → ⊥
  pub no_comma : b ≡ 44 → ⊥
  pub no_arrow : b ≡ 45 → slice_index rest 0 ≢ 62

-- the bytes of a token, before what is left of the text
pub data Spelled : Word → List ℕ → List ℕ → Type 0 where
  open_bracket : {rest : List ℕ} → Spelled lpar (40 ∷ []) rest
  close_bracket : {rest : List ℕ} → Spelled rpar (41 ∷ []) rest
  a_comma : {rest : List ℕ} → Spelled comma (44 ∷ []) rest
  an_arrow : {rest : List ℕ} → Spelled arrow (45 ∷ 62 ∷ []) rest
  a_name : {b : ℕ} {n rest : List ℕ} → letter b ≡ true → all_letters n ≡ true → length n < 16 → Stops rest → Spelled (named (b ∷ n)) (b ∷ n) rest
  a_long_name : {b : ℕ} {n rest : List ℕ} → letter b ≡ true → all_letters n ≡ true → 15 < length n → Stops rest → Spelled long (b ∷ n) rest
  a_stray : {b : ℕ} {rest : List ℕ} → Stray b rest → Spelled illegal (b ∷ []) rest

-- the bytes from an offset on, cut into tokens
pub data Cut : ℕ → List ℕ → List Tok → Type 0 where
  at_end : {at : ℕ} {gap : List ℕ} → all_blank gap → Cut at gap []
  token_next : {at : ℕ} (gap : List ℕ) {u rest : List ℕ} {w : Word} {ts : List Tok} → all_blank gap → Spelled w u rest → Cut (at + length gap + length u) rest ts
      → Cut at (gap ++ (u ++ rest)) (record { at = at + length gap; word = w } ∷ ts)

-- the tokens of a text are the one way to cut it
pub record Tokenized (text : List ℕ) : Type 0 where
  pub cut : Cut 0 text (tokens text)
  pub only : (ts : List Tok) → Cut 0 text ts → ts ≡ tokens text
