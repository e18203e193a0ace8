use Rattle.std.proofs.Common.{◌≡◌, refl, ap, ◌∙◌, arith, rules}
use Rattle.std.specs.Option.{is_some}
use Rattle.evaluation.proofs.Filling.{none_read, asked, one_read, lost}
use Rattle.evaluation.proofs.fold.Goals as goal

pub loop-code-init : goal.loop-code-init
loop-code-init g c =
    let whole : c.into_iter-code-iterator.result.iter.rest.now ≡ c.args.codes.now = search rules in
    record { read = none_read _ _ whole c.over-waiting.ensures.empty c.over-waiting.ensures.memory (omega arith); lender = refl }

pub step-requires : goal.step-requires
step-requires g c = let a = asked c.requires.term c.loop-code.invariant.read _ c.in-Some.code.now c.in-Some.ensures.steps in search rules

pub loop-code-preserved : goal.loop-code-preserved
loop-code-preserved g c =
    let e = c.step.ensures in
    let read = one_read c.requires.term c.loop-code.invariant.read _ c.in-Some.code.now c.in-Some.ensures.steps c.step.new.waiting e.done e.after e.memory e.room (ap is_some c.in_ok-step.was) in
    search rules

pub returns-in_err-step : goal.returns-in_err-step
returns-in_err-step g c =
    let e = c.step.ensures in
    let l = lost c.requires.term c.loop-code.invariant.read _ c.in-Some.code.now c.in-Some.ensures.steps c.step.new.waiting e.done e.after e.memory (ap is_some c.in_err-step.was) _ c.requires.room in
    let memory = l.1 in
    let lender = e.lender ∙ c.loop-code.invariant.lender ∙ c.over-waiting.ensures.lender in
    record { value = c.from_residual.ensures ∙ l.0; memory = search rules }
