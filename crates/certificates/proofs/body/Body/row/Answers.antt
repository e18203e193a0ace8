use Rattle.std.proofs.Common.{◌≡◌, Err, replicate, ◌∙◌, arith, rules}
use Rattle.encodings.specs.Bodies.{byte}
use Rattle.certificates.specs.Tables.{in_four}
use Rattle.certificates.specs.Bodies.{body_of}
use Rattle.certificates.proofs.Filling.{partly_starts, partly_goes_on, partly_fails, partly_ends, plain, plainly, failed}
use Rattle.certificates.proofs.body.Body.row.Goals as goal

pub loop-entry-init : goal.loop-entry-init
loop-entry-init c = partly_starts byte (λ x. x) c.args.dimension (replicate 4 0) (body_of c.args.self.now)

pub loop-entry-preserved : goal.loop-entry-preserved
loop-entry-preserved c = partly_goes_on byte (λ x. x) c.args.dimension (replicate 4 0) (body_of c.args.self.now) _ c.loop-entry.invariant c.requires (omega arith) (c.in_ok-entry.ensures ∙ plain _)

pub returns-in_err-entry : goal.returns-in_err-entry
returns-in_err-entry c =
    let e = c.in_err-entry.field-0.0 in
    let same : c.from_residual.result ≡ Err e = search rules in
    failed _ _ e _ same (partly_fails byte (λ x. x) c.args.dimension (replicate 4 0) (body_of c.args.self.now) e c.loop-entry.invariant c.requires (omega arith) (c.in_err-entry.ensures ∙ plain _) in_four)

pub returns : goal.returns
returns c = partly_ends byte (λ x. x) c.args.dimension (replicate 4 0) (body_of c.args.self.now) c.loop-entry.invariant c.requires (omega arith) in_four (plainly (replicate 4 0))
