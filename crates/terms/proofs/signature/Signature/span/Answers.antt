use Rattle.std.proofs.Common.{◌≡◌, length, drop, cond, unwrap_or, sym, ap, ◌∙◌, length-drop, arith}
use Rattle.std.proofs.lemmas.Bool.{le-leb}
use Rattle.std.proofs.lemmas.Grind.{common_steps}
use Rattle.terms.specs.Codes.{span}
use Rattle.terms.specs.Models.{arities_of}
use Rattle.terms.proofs.Firsts.{span_first, span_few}
use Rattle.terms.proofs.signature.Signature.span.Goals as goal

rest_is : (c : goal.After-unwrap_or) → c.unwrap_or-rest.result.now ≡ drop c.args.at c.args.codes.now
rest_is c = grind (arith, common_steps)

counted : (c : goal.After-unwrap_or) → c.unwrap_or.result ≡ span (arities_of c.args.self.now) 1 (drop c.args.at c.args.codes.now)
counted c =
    c.unwrap_or.ensures ∙ ap (λ o. unwrap_or o (length c.unwrap_or-rest.result.now)) c.first_term.ensures
    ∙ sym (span_first (arities_of c.args.self.now) 1 c.unwrap_or-rest.result.now) ∙ ap (span (arities_of c.args.self.now) 1) (rest_is c)

pub returns-clause-value : goal.returns-clause-value
returns-clause-value c =
    let cs = c.args.codes.now in
    counted c ∙ sym (ap (λ b. cond b (span (arities_of c.args.self.now) 1 (drop c.args.at cs)) 0) (le-leb (length cs) 1024 c.if-codes-gt-MOST_TERM.false))

pub returns-clause-within : goal.returns-clause-within
returns-clause-within c =
    let few = span_few (arities_of c.args.self.now) 1 (drop c.args.at c.args.codes.now) in
    let e = counted c in
    let n = length-drop c.args.at c.args.codes.now in
    omega arith
