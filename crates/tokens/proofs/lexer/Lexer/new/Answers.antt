use Rattle.tokens.proofs.Cuts.{tokenized}
use Rattle.tokens.proofs.lexer.Lexer.new.Goals as goal

pub returns-clause-means : goal.returns-clause-means
returns-clause-means c = tokenized c.args.text.now
