use Rattle.std.specs.Prelude.{[]}
use Rattle.std.proofs.Common.{ap}
use Rattle.job_calls.specs.declared.answer.Answer.TheVariants.{Looked}
use Rattle.job_calls.specs.Calls.{Asked.look}
use Rattle.jobs.specs.Views.{state_of}
use Rattle.jobs.proofs.Lawful.{call_lawful}
use Rattle.jobs.proofs.full.Full.look.Goals as goal

pub returns-clause-law : goal.returns-clause-law
returns-clause-law c =
    let f = c.args.self.now in
    call_lawful f.job f.lasts [] look _ (ap (λ l. record { answer = Looked l; memory = []; state = state_of f.job }) c.look.ensures)
