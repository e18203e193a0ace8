use Rattle.std.proofs.Common.{◌≡◌, Err, replicate, refl, arith, rules}
use Rattle.encodings.specs.Bodies.{square}
use Rattle.certificates.specs.Tables.{matrix_table, matrices_table}
use Rattle.certificates.specs.Bodies.{body_of}
use Rattle.certificates.proofs.Filling.{partly_starts, partly_goes_on, partly_fails, partly_ends, failed}
use Rattle.certificates.proofs.body.Body.matrices.Goals as goal

pub loop-matrix-init : goal.loop-matrix-init
loop-matrix-init c = partly_starts (square c.args.dimension) matrix_table c.args.arity (replicate 4 record { rows = replicate 4 (replicate 4 0) }) (body_of c.args.self.now)

pub loop-matrix-preserved : goal.loop-matrix-preserved
loop-matrix-preserved c = partly_goes_on (square c.args.dimension) matrix_table c.args.arity (replicate 4 record { rows = replicate 4 (replicate 4 0) }) (body_of c.args.self.now) _ c.loop-matrix.invariant c.requires.few (omega arith) (c.in_ok-matrix.ensures)

pub returns-in_err-matrix : goal.returns-in_err-matrix
returns-in_err-matrix c =
    let e = c.in_err-matrix.field-0.0 in
    let same : c.from_residual.result ≡ Err e = search rules in
    failed _ _ e _ same (partly_fails (square c.args.dimension) matrix_table c.args.arity (replicate 4 record { rows = replicate 4 (replicate 4 0) }) (body_of c.args.self.now) e c.loop-matrix.invariant c.requires.few (omega arith) (c.in_err-matrix.ensures) matrices_table)

pub returns : goal.returns
returns c = partly_ends (square c.args.dimension) matrix_table c.args.arity (replicate 4 record { rows = replicate 4 (replicate 4 0) }) (body_of c.args.self.now) c.loop-matrix.invariant c.requires.few (omega arith) matrices_table (λ xs. refl)
