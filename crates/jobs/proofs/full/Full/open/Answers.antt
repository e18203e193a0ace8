use Rattle.std.proofs.Common.{rules, ◌≡◌, Ok, Err, subst}
use Rattle.jobs.specs.Fulls.{state_in}
use Rattle.terms.specs.Systems.{system_of}
use Rattle.job_calls.specs.Runs.{Lasts}
use Rattle.jobs.specs.declared.fault.OpenFault.TheVariants.{BelowHeight}
use Rattle.jobs.specs.Views.{state_of}
use Rattle.jobs.specs.FullOpenings.{full_reply}
use Rattle.jobs.specs.Openings.{fresh}
use Rattle.jobs.proofs.Opening.{open_told, fresh_lasts}
use Rattle.jobs.proofs.full.Full.open.Goals as goal

pub returns-in_err-job-clause-means : goal.returns-in_err-job-clause-means
returns-in_err-job-clause-means g c =
    open_told (g.A.Algebra.means c.args.pile.now) (g.met.A.Algebra.lawful c.args.pile.now) c.args.system c.args.codes.now c.args.grant.now state_in c.from_residual.result (search rules)

pub returns-in_err-review-clause-means : goal.returns-in_err-review-clause-means
returns-in_err-review-clause-means g c =
    open_told (g.A.Algebra.means c.args.pile.now) (g.met.A.Algebra.lawful c.args.pile.now) c.args.system c.args.codes.now c.args.grant.now state_in c.from_residual-in_err-review.result (search rules)

pub returns-in_err-height-clause-means : goal.returns-in_err-height-clause-means
returns-in_err-height-clause-means g c =
    open_told (g.A.Algebra.means c.args.pile.now) (g.met.A.Algebra.lawful c.args.pile.now) c.args.system c.args.codes.now c.args.grant.now state_in c.from_residual-in_err-height.result (search rules)

pub returns-then-amount-height-clause-means : goal.returns-then-amount-height-clause-means
returns-then-amount-height-clause-means g c =
    open_told (g.A.Algebra.means c.args.pile.now) (g.met.A.Algebra.lawful c.args.pile.now) c.args.system c.args.codes.now c.args.grant.now (λ s. s) (Err BelowHeight) (search rules)

pub invariant_of-result : goal.invariant_of-result
invariant_of-result g c =
    let opened : Ok (fresh (system_of c.args.system) c.args.codes.now c.args.grant.now) ≡ full_reply (g.A.Algebra.means c.args.pile.now) (system_of c.args.system) c.args.codes.now c.args.grant.now = search rules in
    let same : fresh (system_of c.args.system) c.args.codes.now c.args.grant.now ≡ state_of c.in_ok-job.job = search rules in
    record { lasts = subst Lasts same (fresh_lasts (g.A.Algebra.means c.args.pile.now) (g.met.A.Algebra.lawful c.args.pile.now) c.args.system c.args.codes.now c.args.grant.now opened) }

pub returns-clause-means : goal.returns-clause-means
returns-clause-means g c =
    let opened : Ok (fresh (system_of c.args.system) c.args.codes.now c.args.grant.now) ≡ full_reply (g.A.Algebra.means c.args.pile.now) (system_of c.args.system) c.args.codes.now c.args.grant.now = search rules in
    open_told (g.A.Algebra.means c.args.pile.now) (g.met.A.Algebra.lawful c.args.pile.now) c.args.system c.args.codes.now c.args.grant.now (λ s. s) (Ok (fresh (system_of c.args.system) c.args.codes.now c.args.grant.now)) opened
