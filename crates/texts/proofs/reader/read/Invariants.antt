use Rattle.tokens.specs.Lexing.{word_of}
use Rattle.tokens.specs.Lexers.{rest_of, end_of}
use Rattle.texts.specs.Documents.{document_of}
use Rattle.texts.proofs.Reading.{Reading, left}
use Rattle.texts.proofs.reader.read.Given as goal

abbrev pub invariant-loop-current : goal.invariant-loop-current
invariant-loop-current l = Reading (document_of l.initial.document) l.text (document_of l.document) l.current.at (word_of l.current.token) (rest_of l.lexer) (end_of l.lexer)

abbrev pub decreases-loop-current : goal.decreases-loop-current
decreases-loop-current l = left l.current.at (word_of l.current.token) (rest_of l.lexer)
