use Rattle.std.proofs.Common.{length, ap, ◌∙◌, arith}
use Rattle.std.specs.Option.{ok_or}
use Rattle.terms.specs.Models.{arities_of}
use Rattle.algebras.specs.declared.fault.AlgebraFault.TheVariants.{RuleOutOfReach}
use Rattle.measuring.proofs.Told.{told_rule}
use Rattle.measuring.proofs.compare.Goals as goal

pub returns-clause-value : goal.returns-clause-value
returns-clause-value g c =
    c.ok_or.ensures.value ∙ ap (λ o. ok_or o RuleOutOfReach) c.compare.ensures.value
    ∙ told_rule (g.P.Reckoning.meaning c.args.part.now) (arities_of c.args.signature.now) (cc) (length c.args.memory.now) (omega arith) c.args.left.now c.args.right.now (cc)
