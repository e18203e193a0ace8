use Rattle.std.proofs.Common.{◌≡◌, ◌+◌, Some, None, rules}
use Rattle.terms.specs.Models.{arities_of}
use Rattle.terms.specs.Replies.{end_reply}
use Rattle.terms.proofs.Exactly.{end_law}
use Rattle.terms.proofs.signature.Signature.subterm_end.Goals as goal

pub returns-then-not-is_term : goal.returns-then-not-is_term
returns-then-not-is_term c =
    let v : None ≡ end_reply (arities_of c.args.self.now) c.args.codes.now c.args.at = search rules in
    record { value = v; means = end_law c.args.self.now c.args.codes.now c.args.at None v }

pub returns-then-at-codes : goal.returns-then-at-codes
returns-then-at-codes c =
    let v : None ≡ end_reply (arities_of c.args.self.now) c.args.codes.now c.args.at = search rules in
    record { value = v; means = end_law c.args.self.now c.args.codes.now c.args.at None v }

pub returns : goal.returns
returns c =
    let v : Some (c.args.at + c.span.result) ≡ end_reply (arities_of c.args.self.now) c.args.codes.now c.args.at = search rules in
    record { value = v; means = end_law c.args.self.now c.args.codes.now c.args.at _ v }
