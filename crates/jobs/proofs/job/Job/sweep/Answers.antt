use Rattle.job_calls.proofs.Replying.{went_on}
use Rattle.jobs.specs.Views.{state_of}
use Rattle.std.proofs.Common.{rules}
use Rattle.jobs.proofs.Sweeps.{ended}
use Rattle.jobs.proofs.job.Job.sweep.Goals as goal

pub loop-steps-preserved : goal.loop-steps-preserved
loop-steps-preserved c =
    went_on (state_of c.args.self.now) (state_of c.loop-steps.self) c.args.most c.loop-steps.steps c.loop-steps.invariant c.loop-steps-test.true (state_of c.advance.new.self) c.in_default.ensures.next

pub returns-in-Err : goal.returns-in-Err
returns-in-Err c =
    ended (state_of c.args.self.now) (state_of c.loop-steps.self) (state_of c.advance.new.self) c.args.grant.now.number c.args.most c.loop-steps.steps c.in-Err.end (search rules) c.loop-steps.invariant c.loop-steps-test.true c.in-Err.ensures.next c.in-Err.ensures.same
