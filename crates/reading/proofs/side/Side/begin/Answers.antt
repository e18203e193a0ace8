use Rattle.tokens.specs.Names.{name_bytes}
use Rattle.vocabulary.specs.Models.{vocabulary_of}
use Rattle.reading.proofs.Naming.{symbol_inside}
use Rattle.reading.proofs.side.Side.begin.Goals as goal

pub use_symbol-requires : goal.use_symbol-requires
use_symbol-requires c = symbol_inside (vocabulary_of c.number.new.vocabulary) (name_bytes c.args.name.now) c.in_ok-code.code c.in-Symbol.symbol c.in_ok-code.ensures.known c.in-Symbol.ensures
