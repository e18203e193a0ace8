use Rattle.std.proofs.Common.{◌≡◌, Ok, Err, Result, IfErr, sym, subst, refl, rules, of_calls}
use Rattle.rewriting.specs.Subjects.{rules_in, term_in}
use Rattle.trips.specs.Visits.{Visited}
use Rattle.trips.specs.declared.End.TheVariants as end
use Rattle.trips.proofs.Following.{all_made, starts, leads_on, goes_on, stops, ends, shows, reached}
use Rattle.trips.proofs.follow_with.Goals as goal

on_err : {X E P : Type 0} (r : Result X E) → P → IfErr r (λ _. P)
on_err (Ok x) p = tt
on_err (Err e) p = p

pub loop-steps-init : goal.loop-steps-init
loop-steps-init g c = record { callable = c.requires; following = starts _ c.args.subject.now c.args.visit }

pub loop-steps-preserved : goal.loop-steps-preserved
loop-steps-preserved g c =
    let e = c.in-Ok-Some.ensures in
    let m = rw c.in-Ok-Some.field-0-is at e.means in
    record { callable = search of_calls; following = goes_on c.loop-steps.invariant.following c.step_on.new.subject e.same _ m c.in_ok-visit-in-Ok-Some.ensures }

pub returns-in-Ok-None-clause-means : goal.returns-in-Ok-None-clause-means
returns-in-Ok-None-clause-means g c =
    let e = c.in-Ok-None.ensures in
    let m = rw c.in-Ok-None.field-0-is at e.means in
    ends c.loop-steps.invariant.following c.step_on.new.subject e.same end.Normal m.1 m.0

pub returns-in-Ok-None-clause-shown : goal.returns-in-Ok-None-clause-shown
returns-in-Ok-None-clause-shown g c =
    let e = c.in-Ok-None.ensures in
    let m = rw c.in-Ok-None.field-0-is at e.means in
    shows c.loop-steps.invariant.following c.step_on.new.subject e.same end.Normal m.0

pub returns-in-Err-clause-means : goal.returns-in-Err-clause-means
returns-in-Err-clause-means g c = let e = c.in-Err.ensures in ends c.loop-steps.invariant.following c.step_on.new.subject e.same end.TooLong e.means.2 e.means.1

pub returns-in-Err-clause-shown : goal.returns-in-Err-clause-shown
returns-in-Err-clause-shown g c = let e = c.in-Err.ensures in shows c.loop-steps.invariant.following c.step_on.new.subject e.same end.TooLong e.means.1

pub returns-in_err-visit-in-Ok-Some-clause-stopped : goal.returns-in_err-visit-in-Ok-Some-clause-stopped
returns-in_err-visit-in-Ok-Some-clause-stopped g c =
    let e = c.in-Ok-Some.ensures in
    let m = rw c.in-Ok-Some.field-0-is at e.means in
    on_err c.from_residual.result (reached _ (leads_on c.loop-steps.invariant.following c.step_on.new.subject e.same m))

pub returns-in_err-visit-in-Ok-Some-clause-shown : goal.returns-in_err-visit-in-Ok-Some-clause-shown
returns-in_err-visit-in-Ok-Some-clause-shown g c =
    let e = c.in-Ok-Some.ensures in
    let m = rw c.in-Ok-Some.field-0-is at e.means in
    let fault = c.in_err-visit-in-Ok-Some.field-0.0 in
    let stopped = stops c.loop-steps.invariant.following c.step_on.new.subject e.same _ fault m c.in_err-visit-in-Ok-Some.ensures in
    let same : c.from_residual.result ≡ Err fault = search rules in
    subst (λ r. Visited (goal.F-step g) (rules_in c.args.subject.now) (term_in c.args.subject.now) c.args.visit r (term_in c.step_on.new.subject)) (sym same) stopped

pub returns-clause-means : goal.returns-clause-means
returns-clause-means g c =
    ends (all_made _ c.loop-steps.invariant.following c.loop-steps-test.false c.loop-steps.auto.steps-end) c.loop-steps.subject refl end.More refl refl

pub returns-clause-shown : goal.returns-clause-shown
returns-clause-shown g c =
    shows (all_made _ c.loop-steps.invariant.following c.loop-steps-test.false c.loop-steps.auto.steps-end) c.loop-steps.subject refl end.More refl
