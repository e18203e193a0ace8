use Rattle.std.proofs.Common.{◌≡◌, Err, replicate, refl, arith, rules}
use Rattle.encodings.specs.Bodies.{row}
use Rattle.certificates.specs.Tables.{in_four, rows_table}
use Rattle.certificates.specs.Bodies.{body_of}
use Rattle.certificates.proofs.Filling.{partly_starts, partly_goes_on, partly_fails, partly_ends, failed}
use Rattle.certificates.proofs.body.Body.rows.Goals as goal

pub loop-row-init : goal.loop-row-init
loop-row-init c = partly_starts (row c.args.dimension) in_four c.args.dimension (replicate 4 (replicate 4 0)) (body_of c.args.self.now)

pub loop-row-preserved : goal.loop-row-preserved
loop-row-preserved c = partly_goes_on (row c.args.dimension) in_four c.args.dimension (replicate 4 (replicate 4 0)) (body_of c.args.self.now) _ c.loop-row.invariant c.requires (omega arith) (c.in_ok-row.ensures)

pub returns-in_err-row : goal.returns-in_err-row
returns-in_err-row c =
    let e = c.in_err-row.field-0.0 in
    let same : c.from_residual.result ≡ Err e = search rules in
    failed _ _ e _ same (partly_fails (row c.args.dimension) in_four c.args.dimension (replicate 4 (replicate 4 0)) (body_of c.args.self.now) e c.loop-row.invariant c.requires (omega arith) (c.in_err-row.ensures) rows_table)

pub returns : goal.returns
returns c = partly_ends (row c.args.dimension) in_four c.args.dimension (replicate 4 (replicate 4 0)) (body_of c.args.self.now) c.loop-row.invariant c.requires (omega arith) rows_table (λ xs. refl)
