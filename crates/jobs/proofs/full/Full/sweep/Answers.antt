use Rattle.std.specs.Prelude.{[]}
use Rattle.job_calls.specs.Calls.{Asked.sweep}
use Rattle.jobs.specs.Views.{state_of}
use Rattle.jobs.proofs.Lawful.{call_lawful, call_lasts, sweep_got}
use Rattle.jobs.proofs.full.Full.sweep.Goals as goal

pub invariant_of-self : goal.invariant_of-self
invariant_of-self c =
    let f = c.args.self.now in
    let g = c.args.grant.now.number in
    record { lasts = call_lasts f.job f.lasts [] (sweep g c.args.most) _ (sweep_got f.job f.lasts g c.args.most c.sweep.result (state_of c.sweep.new.self) c.sweep.ensures) }

pub returns-clause-law : goal.returns-clause-law
returns-clause-law c =
    let f = c.args.self.now in
    let g = c.args.grant.now.number in
    call_lawful f.job f.lasts [] (sweep g c.args.most) _ (sweep_got f.job f.lasts g c.args.most c.sweep.result (state_of c.sweep.new.self) c.sweep.ensures)
