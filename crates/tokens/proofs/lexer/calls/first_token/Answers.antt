use Rattle.std.proofs.Common.{◌∙◌}
use Rattle.tokens.proofs.Lexes.{letters_all, first_named}
use Rattle.tokens.proofs.lexer.calls.first_token.Goals as goal

pub name_token-requires-clause-pure : goal.name_token-requires-clause-pure
name_token-requires-clause-pure c = letters_all c.args.text.now _ c.letters-count.ensures

pub returns-then-count-gt0-clause-word : goal.returns-then-count-gt0-clause-word
returns-then-count-gt0-clause-word c = c.name_token.ensures ∙ (first_named c.args.text.now _ c.letters-count.ensures c.if-count-gt0.true).0

pub returns-then-count-gt0-clause-takes : goal.returns-then-count-gt0-clause-takes
returns-then-count-gt0-clause-takes c = (first_named c.args.text.now _ c.letters-count.ensures c.if-count-gt0.true).1
