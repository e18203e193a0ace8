use Rattle.std.proofs.Common.{replicate}
use Rattle.encodings.specs.Bodies.{square}
use Rattle.certificates.specs.Tables.{matrix_table}
use Rattle.certificates.specs.Bodies.{body_of}
use Rattle.certificates.proofs.Filling.{Partly}
use Rattle.certificates.proofs.body.Body.matrices.Given as goal

abbrev pub invariant-loop-matrix : goal.invariant-loop-matrix
invariant-loop-matrix l = Partly (square l.dimension) matrix_table l.arity (replicate 4 record { rows = replicate 4 (replicate 4 0) }) (body_of l.initial.self) (body_of l.self) l.matrix-index l.matrix-items
