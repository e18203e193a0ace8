-- What is left of a lexer's text.
use Rattle.std.specs.Prelude.{ℕ, List, length}
use Rattle.tokens.specs.declared.lexer.Lexer.{Lexer}
use Rattle.tokens.specs.Tokens.{Tok, tokens_from}

-- the tokens to come
abbrev pub rest_of : Lexer → List Tok
rest_of l = tokens_from l.text.now l.pos

-- the offset of the text's end
abbrev pub end_of : Lexer → ℕ
end_of l = length l.text.now
