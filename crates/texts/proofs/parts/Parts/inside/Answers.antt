use Rattle.std.proofs.Common.{IfOk, sym, subst}
use Rattle.std.proofs.lemmas.Result.{err_from_is_err_and}
use Rattle.bounded.specs.Items.{items}
use Rattle.tokens.specs.Lexing.{word_of}
use Rattle.vocabulary.specs.Models.{vocabulary_of}
use Rattle.reading.specs.Models.{role_of, state_of}
use Rattle.reading.specs.Documents.{Phase.inside}
use Rattle.reading.specs.Holding.{Held}
use Rattle.reading.proofs.Held.{held_inside}
use Rattle.texts.specs.Parts.{rules_of}
use Rattle.texts.proofs.parts.Parts.inside.Goals as goal

pub returns-in_err-read_token-clause-held : goal.returns-in_err-read_token-clause-held
returns-in_err-read_token-clause-held c =
    let p = err_from_is_err_and c.from_residual.result c.from_residual.ensures.1 in
    subst (λ r. IfOk r (λ x. Held (vocabulary_of c.read_token.new.vocabulary) (rules_of (items c.args.self.now.rules)) (inside (role_of c.args.role.now) (state_of c.read_token.new.self)))) (sym p.1) tt

pub returns-clause-held : goal.returns-clause-held
returns-clause-held c =
    let d = c.args.self.now in
    held_inside (rules_of (items d.rules)) (role_of c.args.role.now) (vocabulary_of d.vocabulary) (state_of d.side) (word_of c.args.token.now) c.args.bare c.requires
    (vocabulary_of c.read_token.new.vocabulary) (state_of c.read_token.new.self) c.in_ok-read_token.ensures
