use Rattle.std.proofs.Common.{rules}
use Rattle.job_calls.specs.declared.answer.Answer.TheVariants.{Stepped, Swept, Looked, Copied}
use Rattle.jobs.specs.Asking.{asked}
use Rattle.jobs.specs.Views.{state_of}
use Rattle.jobs.proofs.Lawful.{call_lawful}
use Rattle.jobs.proofs.full.Full.perform.Goals as goal

pub returns-in-Step-clause-law : goal.returns-in-Step-clause-law
returns-in-Step-clause-law c = call_lawful c.args.self.now.job c.args.self.now.lasts c.args.memory.now (asked c.args.call) record { answer = Stepped c.step.result; memory = c.args.memory.now; state = state_of c.step.new.self.job } (search rules)

pub returns-in-Sweep-clause-law : goal.returns-in-Sweep-clause-law
returns-in-Sweep-clause-law c = call_lawful c.args.self.now.job c.args.self.now.lasts c.args.memory.now (asked c.args.call) record { answer = Swept c.sweep.result; memory = c.args.memory.now; state = state_of c.sweep.new.self.job } (search rules)

pub returns-in-Look-clause-law : goal.returns-in-Look-clause-law
returns-in-Look-clause-law c = call_lawful c.args.self.now.job c.args.self.now.lasts c.args.memory.now (asked c.args.call) record { answer = Looked c.look.result; memory = c.args.memory.now; state = state_of c.args.self.now.job } (search rules)

pub returns-in-CopyOut-clause-law : goal.returns-in-CopyOut-clause-law
returns-in-CopyOut-clause-law c = call_lawful c.args.self.now.job c.args.self.now.lasts c.args.memory.now (asked c.args.call) record { answer = Copied c.copy_to.result; memory = c.copy_to.new.memory; state = state_of c.args.self.now.job } (search rules)
