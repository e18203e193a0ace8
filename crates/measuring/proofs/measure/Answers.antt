use Rattle.std.proofs.Common.{length, ap, ◌∙◌, arith}
use Rattle.std.specs.Option.{ok_or}
use Rattle.terms.specs.Models.{arities_of}
use Rattle.algebras.specs.declared.fault.AlgebraFault.TheVariants.{HeightOutOfReach}
use Rattle.measuring.proofs.Told.{told_height}
use Rattle.measuring.proofs.measure.Goals as goal

pub returns-clause-value : goal.returns-clause-value
returns-clause-value g c =
    c.ok_or.ensures.value ∙ ap (λ o. ok_or o HeightOutOfReach) c.height.ensures.value
    ∙ told_height (g.P.Reckoning.meaning c.args.part.now) (arities_of c.args.signature.now) (cc) (length c.args.memory.now) (omega arith) c.args.codes.now (cc)
