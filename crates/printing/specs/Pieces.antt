-- The words that a printed term is made of.
use Rattle.tokens.specs.Tokens.{Word, Word.lpar, Word.rpar, Word.comma, Word.named}
use Rattle.tokens.specs.Names.{name_bytes}
use Rattle.printing.specs.declared.piece.Piece.{Piece}
use Rattle.printing.specs.declared.piece.Piece.TheVariants.{Open, Close, Comma, Named}

abbrev pub piece_word : Piece → Word
piece_word Open = lpar
piece_word Close = rpar
piece_word Comma = comma
piece_word (Named n) = named (name_bytes n)
