use Rattle.std.proofs.Common.{◌≡◌, rules}
use Rattle.algebras.specs.Replies.{ceiling_reply}
use Rattle.algebras.proofs.Telling.{ceiling_law}
use Rattle.interpretations.specs.Orders.{part_means, linear_ceiling}
use Rattle.parts.specs.Views.{linear_of}
use Rattle.parts.specs.Lawfuls.{linear_lawful}
use Rattle.parts.proofs.linear.algebra.LinearPartAlgebra.ceiling.Goals as goal

pub returns-clause-exactly : goal.returns-clause-exactly
returns-clause-exactly c =
    let p = c.args.self.now in
    let value : c.tell_ceiling.result ≡ ceiling_reply (part_means (linear_of p) (linear_ceiling (linear_of p))) c.args.size = search rules in
    ceiling_law _ (linear_lawful p) _ _ value
