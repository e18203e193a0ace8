use Rattle.std.proofs.Common.{◌≡◌, rules}
use Rattle.terms.specs.Models.{arities_of}
use Rattle.terms.specs.Shapes.{is_rule}
use Rattle.terms.proofs.Exactly.{rule_law}
use Rattle.terms.proofs.signature.Signature.is_rule.Goals as goal

pub returns-then-is_term-clause-means : goal.returns-then-is_term-clause-means
returns-then-is_term-clause-means c =
    let v : c.is_term-then-is_term.result ≡ is_rule (arities_of c.args.self.now) c.args.left.now c.args.right.now = search rules in
    rule_law c.args.self.now c.args.left.now c.args.right.now _ v

pub returns-else-is_term-clause-means : goal.returns-else-is_term-clause-means
returns-else-is_term-clause-means c =
    let v : c.if-is_proper.value ≡ is_rule (arities_of c.args.self.now) c.args.left.now c.args.right.now = search rules in
    rule_law c.args.self.now c.args.left.now c.args.right.now _ v
