use Rattle.std.proofs.Common.{arith}
use Rattle.terms.specs.Models.{arities_of}
use Rattle.certificates.specs.Bodies.{body_of}
use Rattle.certificates.proofs.Positive.{linear_monotone}
use Rattle.certificates.proofs.body.Body.linear_part.Goals as goal

pub unreachable-requires : goal.unreachable-requires
unreachable-requires c = c.in-None.ensures.made (linear_monotone (arities_of c.args.signature.now) (body_of c.args.self) _ _ c.requires c.in_ok-symbols.ensures) (omega arith)
