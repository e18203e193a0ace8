use Rattle.std.proofs.Common.{replicate}
use Rattle.encodings.specs.Bodies.{byte}
use Rattle.certificates.specs.Bodies.{body_of}
use Rattle.certificates.proofs.Filling.{Partly}
use Rattle.certificates.proofs.body.Body.row.Given as goal

abbrev pub invariant-loop-entry : goal.invariant-loop-entry
invariant-loop-entry l = Partly byte (λ x. x) l.dimension (replicate 4 0) (body_of l.initial.self) (body_of l.self) l.entry-index l.entry-items
