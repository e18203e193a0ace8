use Rattle.terms.specs.Models.{arities_of}
use Rattle.certificates.specs.Bodies.{body_of}
use Rattle.certificates.proofs.Symbols.{MatrixSymbols}
use Rattle.certificates.proofs.body.Body.matrix_symbols.Given as goal

abbrev pub invariant-loop-symbol : goal.invariant-loop-symbol
invariant-loop-symbol l = MatrixSymbols l.dimension (arities_of l.signature) (body_of l.initial.self) (body_of l.self) l.symbol l.symbols
