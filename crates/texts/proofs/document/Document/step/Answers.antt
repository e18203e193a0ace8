use Rattle.std.proofs.Common.{sym, ◌∙◌}
use Rattle.tokens.specs.Lexing.{word_of}
use Rattle.texts.proofs.Keeping.{held_behind}
use Rattle.texts.proofs.document.Document.step.Goals as goal

pub invariant_of-self-else-is_err : goal.invariant_of-self-else-is_err
invariant_of-self-else-is_err c =
    let after = c.step-answer.new in
    record { held = held_behind c.args.self.now (word_of c.args.token.now) c.args.bare c.step-answer.result (sym c.is_err.ensures.value ∙ c.if-is_err.false) after.self after.phase c.step-answer.ensures }
