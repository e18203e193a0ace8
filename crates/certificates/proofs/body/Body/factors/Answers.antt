use Rattle.std.proofs.Common.{◌≡◌, Err, replicate, ◌∙◌, arith, rules}
use Rattle.encodings.specs.Bodies.{positive}
use Rattle.certificates.specs.Bodies.{body_of}
use Rattle.certificates.specs.Tables.{in_four}
use Rattle.certificates.proofs.Filling.{partly_starts, partly_goes_on, partly_fails, partly_ends, plain, plainly, failed}
use Rattle.certificates.proofs.body.Body.factors.Goals as goal

pub loop-factor-init : goal.loop-factor-init
loop-factor-init c = partly_starts positive (λ x. x) c.args.arity (replicate 4 0) (body_of c.args.self.now)

pub loop-factor-preserved : goal.loop-factor-preserved
loop-factor-preserved c =
    partly_goes_on positive (λ x. x) c.args.arity (replicate 4 0) (body_of c.args.self.now) _ c.loop-factor.invariant c.requires (omega arith) (c.in_ok-factor.ensures ∙ plain _)

pub returns-in_err-factor : goal.returns-in_err-factor
returns-in_err-factor c =
    let e = c.in_err-factor.field-0.0 in
    let same : c.from_residual.result ≡ Err e = search rules in
    failed _ _ e _ same (partly_fails positive (λ x. x) c.args.arity (replicate 4 0) (body_of c.args.self.now) e c.loop-factor.invariant c.requires (omega arith) (c.in_err-factor.ensures ∙ plain _) in_four)

pub returns : goal.returns
returns c = partly_ends positive (λ x. x) c.args.arity (replicate 4 0) (body_of c.args.self.now) c.loop-factor.invariant c.requires (omega arith) in_four (plainly (replicate 4 0))
