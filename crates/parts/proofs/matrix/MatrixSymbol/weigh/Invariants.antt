use Rattle.std.proofs.Common.{◌≡◌, ◌*◌, ◌≤◌, [], get_or, length, take, sum_by}
use Rattle.std.specs.List.{zip}
use Rattle.algebras.specs.Meanings.{reach}
use Rattle.parts.specs.Vectors.{dotted}
use Rattle.parts.proofs.matrix.MatrixSymbol.weigh.Given as goal

abbrev pub invariant-loop-matrix : goal.invariant-loop-matrix
invariant-loop-matrix l =
    (l.sum ≡ sum_by (λ p. dotted (get_or p.0.rows l.row []) (take l.dimension p.1)) (take (length l.yielded) (zip l.self.matrices l.args))) × (l.sum ≤ length l.yielded * (1020 * reach))
