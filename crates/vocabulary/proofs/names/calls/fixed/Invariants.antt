use Rattle.std.proofs.Common.{◌≡◌, take}
use Rattle.bounded.specs.Items.{items}
use Rattle.vocabulary.specs.Vocabularies.{symbol_arities}
use Rattle.vocabulary.proofs.Fixing.{somes}
use Rattle.vocabulary.proofs.names.calls.fixed.Given as goal

abbrev pub invariant-loop-symbol : goal.invariant-loop-symbol
invariant-loop-symbol l = take l.symbol-index (symbol_arities l.symbols) ≡ somes (items l.numbers)
