use Rattle.terms.specs.Models.{arities_of}
use Rattle.certificates.specs.Bodies.{body_of}
use Rattle.certificates.proofs.Symbols.{LinearSymbols}
use Rattle.certificates.proofs.body.Body.linear_symbols.Given as goal

abbrev pub invariant-loop-symbol : goal.invariant-loop-symbol
invariant-loop-symbol l = LinearSymbols (arities_of l.signature) (body_of l.initial.self) (body_of l.self) l.symbol l.symbols
