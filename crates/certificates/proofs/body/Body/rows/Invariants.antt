use Rattle.std.proofs.Common.{replicate}
use Rattle.encodings.specs.Bodies.{row}
use Rattle.certificates.specs.Tables.{in_four}
use Rattle.certificates.specs.Bodies.{body_of}
use Rattle.certificates.proofs.Filling.{Partly}
use Rattle.certificates.proofs.body.Body.rows.Given as goal

abbrev pub invariant-loop-row : goal.invariant-loop-row
invariant-loop-row l = Partly (row l.dimension) in_four l.dimension (replicate 4 (replicate 4 0)) (body_of l.initial.self) (body_of l.self) l.row-index l.row-items
