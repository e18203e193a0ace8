use Rattle.std.specs.Prelude.{◌≡◌, ◌-◌}
use Rattle.job_calls.specs.Calls.{swept_from}
use Rattle.jobs.specs.Views.{state_of}
use Rattle.jobs.proofs.job.Job.sweep.Given as goal

-- the rest of the sweep from here comes to what the whole does
abbrev pub invariant-loop-steps : goal.invariant-loop-steps
invariant-loop-steps l = swept_from (l.most - l.steps) l.steps (state_of l.self) ≡ swept_from l.most 0 (state_of l.fn.self)
