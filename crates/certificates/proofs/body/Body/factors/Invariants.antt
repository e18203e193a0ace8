use Rattle.std.proofs.Common.{replicate}
use Rattle.encodings.specs.Bodies.{positive}
use Rattle.certificates.specs.Bodies.{body_of}
use Rattle.certificates.proofs.Filling.{Partly}
use Rattle.certificates.proofs.body.Body.factors.Given as goal

abbrev pub invariant-loop-factor : goal.invariant-loop-factor
invariant-loop-factor l = Partly positive (λ x. x) l.arity (replicate 4 0) (body_of l.initial.self) (body_of l.self) l.factor-index l.factor-items
