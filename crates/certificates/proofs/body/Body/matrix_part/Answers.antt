use Rattle.terms.specs.Models.{arities_of}
use Rattle.certificates.specs.Bodies.{body_of}
use Rattle.certificates.proofs.Positive.{matrix_monotone, ranged_taken}
use Rattle.certificates.proofs.body.Body.matrix_part.Goals as goal

pub unreachable-requires : goal.unreachable-requires
unreachable-requires c =
    let t = ranged_taken 1 4 (body_of c.args.self) c.in_ok-dimension.field-0 (body_of c.ranged.new.self) c.requires c.in_ok-dimension.ensures in
    c.in-None.ensures.made (matrix_monotone c.in_ok-dimension.field-0 (arities_of c.args.signature.now) (body_of c.ranged.new.self) _ _ t.0.0 t.1 c.in_ok-symbols.ensures) t.0.1
