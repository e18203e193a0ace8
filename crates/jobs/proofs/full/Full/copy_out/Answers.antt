use Rattle.std.proofs.Common.{rules, length}
use Rattle.job_calls.specs.declared.answer.Answer.TheVariants.{Copied}
use Rattle.job_calls.specs.Calls.{Asked.copy_out}
use Rattle.jobs.specs.Views.{state_of}
use Rattle.jobs.proofs.Lawful.{call_lawful}
use Rattle.jobs.proofs.full.Full.copy_out.Goals as goal

pub returns-clause-law : goal.returns-clause-law
returns-clause-law c =
    let f = c.args.self.now in
    call_lawful f.job f.lasts c.args.out.now (copy_out (length c.args.out.now)) record { answer = Copied c.copy_to.result; memory = c.copy_to.new.memory; state = state_of f.job } (search rules)
