use Rattle.std.proofs.Common.{◌+◌, length, sym, ap, ◌∙◌, subst}
use Rattle.std.specs.List.{prefix_len}
use Rattle.std.proofs.lemmas.List.{take_rest}
use Rattle.tokens.specs.Bytes.{blank}
use Rattle.tokens.specs.Lexing.{Taken, first_word, first_length}
use Rattle.tokens.specs.Tokens.{tokens_from}
use Rattle.tokens.proofs.Lexes.{popped}
use Rattle.tokens.proofs.lexer.Lexer.next.Goals as goal

pub returns-clause-pops : goal.returns-clause-pops
returns-clause-pops c =
    let text = c.args.self.now.text.now in
    let pos = c.args.self.now.pos in
    let at = pos + c.blanks.result in
    let found = c.first_token-token.ensures in
    let blanks = c.blanks.ensures.are ∙ ap (prefix_len blank) (take_rest text pos) in
    let takes = found.takes ∙ ap first_length (take_rest text at) in
    let word = found.word ∙ ap first_word (take_rest text at) in
    subst (Taken (tokens_from text pos) (length text) (tokens_from text (at + c.first_token-token.result.1)) at) (sym word)
    (popped text pos at _ c.args.self.now.within (ap (λ n. pos + n) blanks) (ap (λ n. at + n) takes))
