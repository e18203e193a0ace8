-- What a lexer hands out: the tokens of its text, one by one.
use Rattle.std.specs.Prelude.{◌≡◌, ℕ, suc, List, [], ◌∷◌, Some, None, Option}
use Rattle.tokens.specs.declared.token.Token.{Token}
use Rattle.tokens.specs.declared.token.Token.TheVariants.{Open, Close, Comma, Arrow, Named, Long, Illegal, End}
use Rattle.tokens.specs.declared.token.Lexeme.{Lexeme}
use Rattle.tokens.specs.Tokens.{Word, Word.lpar, Word.rpar, Word.comma, Word.arrow, Word.named, Word.long, Word.illegal, Tok, token, extra}
use Rattle.tokens.specs.Names.{name_bytes}

-- the word of a token; the end has none
abbrev pub word_of : Token → Option Word
word_of Open = Some lpar
word_of Close = Some rpar
word_of Comma = Some comma
word_of Arrow = Some arrow
word_of (Named n) = Some (named (name_bytes n))
word_of Long = Some long
word_of Illegal = Some illegal
word_of End = None

-- the word of the token that a text begins with, and how many bytes it takes
abbrev pub first_word : List ℕ → Option Word
first_word [] = None
first_word (b ∷ bs) = Some (token b bs)

abbrev pub first_length : List ℕ → ℕ
first_length [] = 0
first_length (b ∷ bs) = suc (extra b bs)

-- the first token is taken off, or there is none, and the text ends at `end`
abbrev pub Taken : List Tok → ℕ → List Tok → ℕ → Option Word → Type 0
Taken before end after at (Some w) = before ≡ record { at = at; word = w } ∷ after
Taken before end after at None = (before ≡ []) × (after ≡ []) × (at ≡ end)

abbrev pub Pops : List Tok → ℕ → Lexeme → List Tok → Type 0
Pops before end l after = Taken before end after l.at (word_of l.token)
